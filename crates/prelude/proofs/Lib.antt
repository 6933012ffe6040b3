-- General laws, said once for every crate.
pub mod Bools
pub mod Lists
pub mod Counts
pub mod Sums
pub mod Sorting
pub mod Maps
pub mod Loops
pub mod Ranges
pub mod Numbers
pub mod Gathered
pub mod Gathers
pub mod Filled
pub mod Behind

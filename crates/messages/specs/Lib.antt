pub mod Counts
pub mod Texts

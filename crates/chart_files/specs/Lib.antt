pub mod Checked
pub mod Tallies
pub mod Structure
pub mod Waits

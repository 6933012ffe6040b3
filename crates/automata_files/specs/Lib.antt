pub mod Checked
pub mod Checks

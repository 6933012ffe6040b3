pub mod Lines
pub mod Looping

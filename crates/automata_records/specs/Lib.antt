pub mod Shape
pub mod Accepted
pub mod Places
pub mod Parts
pub mod Known
pub mod Names
pub mod Structure

pub mod Shape
pub mod Accepted
pub mod Places
pub mod Parts

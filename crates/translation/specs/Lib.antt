pub mod Answer
pub mod Lengths

-- Arithmetic of 32-bit numbers in 64 bits, and which number stands for which outcome.
pub mod Signed
pub mod Outcomes

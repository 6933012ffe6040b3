-- What the paper says: the operators of two numbers, and what they come to.
pub mod Operators
pub mod Arithmetic
-- What the code says: an outcome as one number.
pub mod Outcomes

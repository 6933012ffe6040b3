-- Laws that the proofs of several functions use.
pub mod TwinLengths
mod Settled
mod Claims

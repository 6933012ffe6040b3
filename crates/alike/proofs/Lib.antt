-- Laws that the proofs of several functions use, and that crates above cite.
pub mod Alike
mod Same

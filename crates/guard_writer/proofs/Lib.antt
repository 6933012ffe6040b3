-- What the proofs of several functions use, and how short a text is, which crates above cite.
mod Texts
mod Rules
mod Codes
mod Listed
pub mod Lines
pub mod Short
mod Owns

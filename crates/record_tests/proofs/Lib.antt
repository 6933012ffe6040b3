-- Laws that the proofs of several functions use, and that crates above cite.
pub mod UnusedRanges
pub mod UnusedWords
pub mod Chunks

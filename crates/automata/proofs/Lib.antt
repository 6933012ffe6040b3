-- Laws that the proofs of several functions use, and that crates above cite.
pub mod RunOfClocks
pub mod TurnOfKept
pub mod TurnOf
mod TurnOfCycle
pub mod PlayedOf

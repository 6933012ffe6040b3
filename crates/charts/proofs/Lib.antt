-- Laws that the proofs of several functions use, and that crates above cite.
pub mod TurnOfEnd
pub mod TurnOfKept
pub mod TurnOf
pub mod TurnOfCycle
pub mod PlayedOf

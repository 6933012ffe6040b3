-- Laws that the proofs of several functions use, and that crates above cite.
pub mod Bits
pub mod Files
pub mod Rests
pub mod ChainsEarliest
pub mod Chains
pub mod WorldsCodes
pub mod Worlds
pub mod TurnsKept
pub mod ChecksClauses
pub mod Turns
pub mod TurnsCycle
pub mod Playing
pub mod PlayingCalls

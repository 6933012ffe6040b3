-- What the proofs of several functions use, and the laws that crates above cite.
pub mod Decided
pub mod Depth
pub mod Codes
pub mod Fields
pub mod Arms
pub mod WholeRecords
pub mod Uses
pub mod ExampleNodes
mod ValueExamples

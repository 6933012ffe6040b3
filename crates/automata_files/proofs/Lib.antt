-- What the proofs of several functions use, and the laws that crates above cite.
pub mod UnusedLiterals
pub mod StructureTests
pub mod ShapeFramed
pub mod ChecksFramed
pub mod AcceptedByCheck

-- What the proofs of several functions use, and the laws that crates above cite.
pub mod StructureInitials
pub mod Tallies
pub mod StructureOwners
pub mod StructurePriorities
pub mod StructureFramed
pub mod WaitsAlike
pub mod WaitsFramed
pub mod ShapeFramed
pub mod ShapeChecked
pub mod AcceptedByCheck

-- Laws that the proofs of several functions use, and that crates above cite.
pub mod ValuesRead
pub mod IndexWalk
pub mod IndexLinked
pub mod IndexOwned
pub mod IndexRecords
pub mod StepOfOpen
pub mod StepOf

-- Laws that the proofs of several functions use, and that crates above cite.
pub mod TablesRow
pub mod Accepted
pub mod TablesActions
pub mod ValuesRead
pub mod Replies
pub mod TablesFilled
pub mod StepOf
pub mod Waiting
pub mod TablesDeeds
pub mod StepOfTurns

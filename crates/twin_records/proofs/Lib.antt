-- Laws that the proofs of several functions use, and that crates above cite.
pub mod TextsWritten
pub mod TextsSections
pub mod TablesClocks
pub mod TablesWaiting
pub mod TextsNodes

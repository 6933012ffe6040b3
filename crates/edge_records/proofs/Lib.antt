-- Laws that the proofs of several functions use, and that crates above cite.
pub mod TextsEdges
pub mod TextsIdle

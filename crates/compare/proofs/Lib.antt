-- Laws that the proofs use.
mod Masks

-- Laws that the proofs of several functions use, and that crates above cite.
pub mod PlacesRead
pub mod NamedTests
pub mod NamedThings

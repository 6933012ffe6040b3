pub mod Played
pub mod Sets
pub mod Twins
pub mod Loop

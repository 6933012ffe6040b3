pub mod Files
pub mod Worlds
pub mod Checks
pub mod Turns
pub mod Chains
pub mod Playing
pub mod Deeds

pub mod Sets
pub mod Tables
pub mod Guards
pub mod Listing

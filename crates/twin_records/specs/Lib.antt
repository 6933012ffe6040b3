pub mod Texts
pub mod Tables

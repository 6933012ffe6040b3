pub mod Lists
pub mod Owned

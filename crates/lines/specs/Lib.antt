pub mod Text
pub mod Ascii

pub mod FramingLaws
pub mod Runs
pub mod Framed

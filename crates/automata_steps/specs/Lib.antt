pub mod Values
pub mod Index
pub mod StepOf
pub mod Prepared

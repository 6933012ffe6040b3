pub mod Values
pub mod Tables
pub mod Replies
pub mod StepOf
pub mod Prepared

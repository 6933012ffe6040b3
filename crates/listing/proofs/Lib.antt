mod ListingExamples
pub mod Written
pub mod FileNodes

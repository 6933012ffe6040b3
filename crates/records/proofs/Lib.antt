pub mod Fields
pub mod Records
pub mod RoundTrips
pub mod Tables
pub mod Wrote

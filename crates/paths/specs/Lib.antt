pub mod Along
pub mod LedOf

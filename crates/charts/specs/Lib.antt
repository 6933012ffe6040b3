pub mod TurnOf
pub mod PlayedOf
pub mod EndedBy

pub mod Along
pub mod LedOfEdges
pub mod LedOfIdling
pub mod LedOfSteps
pub mod AlongFollowed
pub mod LedOf
pub mod AlongBounds
pub mod EdgesHeld

pub mod GrowthBounds

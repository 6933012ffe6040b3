pub mod FromPlace
pub mod Leaves
pub mod PartTrees
pub mod GrammarSteps
pub mod PackedParts
pub mod Readings
pub mod WholeLines

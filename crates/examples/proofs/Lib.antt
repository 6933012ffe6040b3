-- Examples of the model, computed: those that document 01 marks, then one row for each bound.
pub mod ExampleSets
pub mod ExampleFiles
mod MarkedExamples
mod ChartExamples
mod ActionExamples
mod WaitingExamples
mod CheckExamples
mod PathExamples
mod FileExamples
mod TwinExamples
mod BoundaryLimitExamples
mod BoundaryFileExamples
mod BoundaryTableExamples
mod BoundaryRunExamples

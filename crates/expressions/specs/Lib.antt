-- What the paper says of nodes: their records, what they come to, their sorts, order and use.
pub mod Nodes
pub mod Values
pub mod Sorts
-- What the code says: its results and numbers as the paper's outcomes, and how it reads and counts.
pub mod Answers
pub mod OperandValues
pub mod Coded
pub mod WholeRecords
pub mod Uses

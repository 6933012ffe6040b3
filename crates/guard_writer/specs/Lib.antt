-- What the code says: operators by their codes, what is asked of places and operands, how many bytes are enough, and its answers in the words of the definitions.
pub mod Codes
pub mod Operands
pub mod Measures
pub mod Answers

-- Laws of functions on a run that is lent to them.
pub mod LentWhole
pub mod Lent
pub mod LentAnswers

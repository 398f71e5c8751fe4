pub mod Input
pub mod File
pub mod Loaded
pub mod Answers
pub mod Law
pub mod RowsLeft
pub mod FieldGrammar

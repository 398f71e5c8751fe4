pub mod Load
pub mod Answers
pub mod Done
pub mod Order
pub mod Looks

pub mod Columns
pub mod Known
pub mod Bitmaps
pub mod Files
pub mod Parts
pub mod Meaning
pub mod Answers
pub mod Samples

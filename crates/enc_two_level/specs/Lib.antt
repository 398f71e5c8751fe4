pub mod Levels
pub mod Whole
pub mod Named
pub mod Grouped

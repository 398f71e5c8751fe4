pub mod Index
pub mod Build
pub mod Built

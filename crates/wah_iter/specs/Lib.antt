pub mod Runs
pub mod Appended
pub mod Rows
pub mod Walks

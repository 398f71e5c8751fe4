pub mod Columns
pub mod Builds
pub mod Leaves
pub mod Causes
pub mod Looks

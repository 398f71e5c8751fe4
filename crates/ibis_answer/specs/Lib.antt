pub mod Query
pub mod Answer
pub mod Causes
pub mod Looks
pub mod Asked

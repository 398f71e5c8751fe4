pub mod Made
pub mod Ran
pub mod Hits

pub mod Completes
pub mod Requests
pub mod Session

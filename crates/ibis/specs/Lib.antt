pub mod Indexes
pub mod Listing
pub mod ListSteps
pub mod Looks

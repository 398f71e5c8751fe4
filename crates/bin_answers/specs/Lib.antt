pub mod BinRuns
pub mod Bins
pub mod Fetched
pub mod Written

pub mod Placed
pub mod Faults
pub mod FaultLaws
pub mod Opened
pub mod ColumnFiles
pub mod Kept
pub mod MeaningLaws

pub mod Found
pub mod Blocks
pub mod Reads
pub mod Faults
pub mod Numbers
pub mod Texts

pub mod Meaning
pub mod Looks
pub mod Answer
pub mod Faults
pub mod Open
pub mod Second

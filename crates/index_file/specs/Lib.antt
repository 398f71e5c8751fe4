pub mod IndexFile
pub mod Order
pub mod Places
pub mod Front
pub mod Opening
pub mod Fetching

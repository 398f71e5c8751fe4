pub mod Limits
pub mod Places
pub mod Spelling
pub mod Bytes
pub mod Left
pub mod Built

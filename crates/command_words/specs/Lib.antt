pub mod Places
pub mod Words
pub mod Valid
pub mod Lines
pub mod Ahead

pub mod Command
pub mod Reply
pub mod Effects
pub mod Causes
pub mod Order
pub mod Runs
pub mod Looks

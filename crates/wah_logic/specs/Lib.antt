pub mod Logic
pub mod Rest
pub mod Pairs
pub mod Groups

pub mod Tables
pub mod Plans
pub mod Rows
pub mod Candidates
pub mod Held
pub mod Deciding

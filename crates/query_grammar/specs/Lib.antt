pub mod Grammar
pub mod Language
pub mod Limits
pub mod Picks
pub mod Reading
pub mod Refusals
pub mod Shorter

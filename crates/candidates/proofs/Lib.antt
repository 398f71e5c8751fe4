pub mod TextLemmas
pub mod FaultLemmas
pub mod PlaceLemmas
pub mod RunLemmas
pub mod BlockLemmas
pub mod ReadLemmas
pub mod FoundLemmas
pub mod WalkLemmas

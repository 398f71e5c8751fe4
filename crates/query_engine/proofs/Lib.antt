pub mod FaultLemmas
pub mod NameLemmas
pub mod ReadLemmas
pub mod PartLemmas
pub mod WalkLemmas
pub mod ChoosingLemmas
pub mod BoundingLemmas
pub mod LawLemmas

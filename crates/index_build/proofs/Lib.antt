pub mod ReadingLemmas
pub mod IndexLemmas
pub mod BuildLemmas
pub mod BuiltLemmas
pub mod OpeningLemmas

pub mod MapLemmas
pub mod PlaceLemmas
pub mod PieceLemmas
pub mod ContentLemmas
pub mod FileLemmas
pub mod KeptLemmas
pub mod BuiltLemmas
pub mod IndexLemmas

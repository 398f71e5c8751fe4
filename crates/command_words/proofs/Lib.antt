pub mod AheadLemmas
pub mod NumberLemmas
pub mod PathLemmas
pub mod PlaceLemmas
pub mod WordsLemmas

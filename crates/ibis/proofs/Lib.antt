pub mod StepLemmas
pub mod ListLemmas
pub mod IndexLemmas
pub mod ListingWorldLemmas

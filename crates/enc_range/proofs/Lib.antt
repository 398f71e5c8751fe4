pub mod RangeLemmas
pub mod RunningLemmas

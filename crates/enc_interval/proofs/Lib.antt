pub mod IntervalLemmas
pub mod SlidingLemmas

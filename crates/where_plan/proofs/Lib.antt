pub mod FoldLemmas
pub mod SpanSets
pub mod RangeLemmas
pub mod PlanLemmas
pub mod PlanOfLemmas
pub mod CodeLemmas

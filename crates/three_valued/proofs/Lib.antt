pub mod TableLemmas
pub mod RowLemmas
pub mod PlanLemmas
pub mod SoundLemmas
pub mod EvaluationLemmas
pub mod DecidingLemmas

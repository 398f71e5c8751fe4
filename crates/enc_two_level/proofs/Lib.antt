pub mod NumbersLemmas
pub mod NeedsLemmas
pub mod LawLemmas
pub mod EvalLemmas
pub mod GroupsLemmas
pub mod BitmapsLemmas

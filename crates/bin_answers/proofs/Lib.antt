pub mod RunLemmas
pub mod RowLemmas
pub mod FetchLemmas
pub mod IndexLemmas
pub mod EdgeLemmas
pub mod WrittenLemmas

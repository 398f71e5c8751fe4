pub mod NumberLemmas
pub mod ValuesLemmas
pub mod OpeningLemmas
pub mod RowsLemmas

pub mod TaskLemmas
pub mod ColumnLemmas
pub mod WorldLemmas
pub mod FileLemmas
pub mod BuildLemmas
pub mod PutLemmas

pub mod NameLemmas
pub mod OpenLemmas
pub mod MemoryLemmas
pub mod StreamLemmas
pub mod FileLemmas
pub mod PutLemmas
pub mod ReadLemmas
pub mod JoinLemmas
pub mod KnownLemmas
mod Rows

pub mod CompleteLemmas
pub mod CutLemmas
pub mod InputLemmas
pub mod LinesLemmas
pub mod RequestLemmas
pub mod RunLinesLemmas
pub mod SessionLemmas
pub mod TableLemmas

pub mod LoadLemmas
pub mod AnswerLemmas
pub mod EndLemmas
pub mod WorldLemmas
pub mod LookLemmas

pub mod PrintLemmas
pub mod Refusals
pub mod RunLemmas
pub mod LoadRunLemmas
pub mod QuestionLemmas
pub mod BuildRunLemmas

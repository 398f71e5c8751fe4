pub mod Examples
pub mod FieldFacts
pub mod LawFacts
pub mod LoadFacts
pub mod RecordsOfText
pub mod TakenBytes
pub mod FieldGrammarFacts

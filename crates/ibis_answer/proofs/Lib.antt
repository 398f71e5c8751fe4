pub mod QueryLemmas
pub mod GivesLemmas
pub mod NamedLemmas
pub mod HitLemmas
pub mod WorldLemmas
pub mod LookLemmas
pub mod EncloseLemmas

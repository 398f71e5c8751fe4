pub mod PathLemmas
pub mod RanLemmas
pub mod EndLemmas
pub mod LoadLemmas
pub mod HitLemmas

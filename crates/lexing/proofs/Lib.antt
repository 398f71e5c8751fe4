pub mod Cases
pub mod Runs
pub mod DigitLemmas
pub mod Steps
pub mod Laws

pub mod Rising
pub mod Stable
pub mod TotalLemmas
pub mod GroupLemmas
pub mod Orders
pub mod PrintedLemmas

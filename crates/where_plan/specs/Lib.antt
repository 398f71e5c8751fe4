pub mod Sorts
pub mod SpansOf
pub mod Plans
pub mod PlanOf
pub mod Refusals
pub mod PlanHolds

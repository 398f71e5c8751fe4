pub mod LookLemmas
pub mod ListLemmas
pub mod RowLemmas
pub mod FirstLemmas
pub mod SecondLemmas
pub mod PlanRows
pub mod StepLemmas
pub mod SheetLemmas

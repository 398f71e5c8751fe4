pub mod Cells
pub mod IndexFiles
pub mod World
pub mod PartFiles
pub mod Stands
pub mod Effects

pub mod Answer
pub mod Gathered
pub mod Keys
pub mod Order
pub mod Printed
pub mod Rows
pub mod Totals

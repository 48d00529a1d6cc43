pub mod Cells
pub mod Plan
pub mod Bench

pub mod States
pub mod Ratios

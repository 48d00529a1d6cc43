pub mod Put
pub mod Shape
pub mod Trip
pub mod Exact
pub mod Damage
pub mod Digits
pub mod Coding
pub mod DigitsBack

pub mod Decoded
pub mod Line

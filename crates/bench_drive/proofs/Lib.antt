pub mod Values
pub mod Entries

pub mod Changing
pub mod Lawful
pub mod Ticks
pub mod Toward

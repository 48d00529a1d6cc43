pub mod Refusal
pub mod Check
pub mod Buffer
pub mod Telegram
pub mod Reader
pub mod Writer
pub mod Laws
pub mod Hex

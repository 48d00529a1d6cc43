pub mod Key
pub mod Order
pub mod Refusal
pub mod Acceptance
pub mod Table
pub mod Laws

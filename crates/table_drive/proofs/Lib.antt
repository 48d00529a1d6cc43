pub mod Ascending
pub mod KeyOrder
pub mod Searching
pub mod Accepting
pub mod Finding
pub mod InUse
pub mod Writing

pub mod Bytes
pub mod Calls
pub mod Items
pub mod Lines
pub mod Messages
pub mod Replies

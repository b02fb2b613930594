-- Messages and their items in bytes, notices, sends and receives.
pub mod Items
pub mod Kept
pub mod Messages
pub mod Notices
pub mod Receiving
pub mod Sending

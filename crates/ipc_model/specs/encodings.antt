-- Calls, replies, records and images in bytes.
pub mod Encodings
pub mod Images
pub mod PlainCalls

pub mod Standing
pub mod Slots
pub mod Changes
pub mod Encoded
pub mod Gates

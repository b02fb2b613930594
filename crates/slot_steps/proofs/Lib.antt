pub mod Clearing
pub mod Following
pub mod Gates
pub mod Lengths

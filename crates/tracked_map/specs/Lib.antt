pub mod Slots
pub mod Tracked
pub mod Touched

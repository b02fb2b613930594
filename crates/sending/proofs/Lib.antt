pub mod Taken
pub mod Whole
pub mod Joined
pub mod LiveRights
pub mod Prefixed
pub mod Rests
pub mod Steps

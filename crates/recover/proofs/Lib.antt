mod Apart
pub mod Crashes
pub mod Fronts
pub mod Gates
mod Faults
pub mod Joined
pub mod Rest
pub mod Stages
pub mod Streams
pub mod Surveys
pub mod Texts
mod Upgraded
pub mod Ways

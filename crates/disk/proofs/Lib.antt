mod Replay
pub mod Moments
mod Crashes
mod Folders
mod MemoryFolder

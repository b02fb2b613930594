mod Appending
mod Between
mod Calls
mod Checkpoints
mod Counting
mod Crashes
mod Going
pub mod Lists
mod OrderLaws
mod Making
pub mod Passed
pub mod Logs
mod Runs
pub mod Simulation
mod Stored
mod Tickets

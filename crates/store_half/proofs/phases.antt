pub mod Appends
mod Alongside
pub mod Clearing
mod Imaging
pub mod Images
mod Rolling
pub mod Rolls
pub mod Stops
pub mod Passed

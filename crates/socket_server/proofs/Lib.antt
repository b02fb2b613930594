mod Begun
pub mod Reporting
mod Showing
mod Staying
mod Unconfined

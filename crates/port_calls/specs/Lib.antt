pub mod Passed
pub mod Trying

pub mod Passed
pub mod Requests

pub mod Burials
pub mod Carriers
pub mod Counting
pub mod IndexLaws
pub mod Indexes
pub mod Passed
pub mod Requests
pub mod Taken

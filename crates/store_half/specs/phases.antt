pub mod Batches
pub mod Passed
pub mod Phases

pub mod Batch
pub mod BatchLaws
pub mod Readers
pub mod Reading
pub mod Storing
pub mod Windows

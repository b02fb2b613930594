pub mod Adding
pub mod Filling
pub mod Names
pub mod Reading
pub mod Values
pub mod Whole

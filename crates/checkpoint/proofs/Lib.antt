mod Along
mod Exits
pub mod Whole

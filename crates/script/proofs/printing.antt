pub mod ItemLoops
pub mod Rows

pub mod Blocks
pub mod Entries
pub mod Marks
pub mod Pasts

pub mod LawfulSnapshot
pub mod Ascending
pub mod Rows
pub mod Snapshots

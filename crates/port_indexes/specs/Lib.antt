pub mod Counts
pub mod Indexed
pub mod Places
pub mod Rights

pub mod Appended
pub mod Gates

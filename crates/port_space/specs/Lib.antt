pub mod Alongside
pub mod Crowded
pub mod References
pub mod Renaming
pub mod Tables
pub mod Finding
pub mod Walking

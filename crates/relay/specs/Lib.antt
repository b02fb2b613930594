pub mod Relaying
pub mod Ending
pub mod shell

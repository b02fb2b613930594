pub mod Agrees
pub mod Sends
pub mod SoFar

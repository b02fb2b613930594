pub mod Confining
pub mod Ending
pub mod Keeping
pub mod Program
pub mod Crashing

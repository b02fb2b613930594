pub mod Answers
pub mod Asking
pub mod Telling
pub mod Turns
pub mod Ending

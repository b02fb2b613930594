pub mod Copying
pub mod Fronts
pub mod Live
pub mod Still

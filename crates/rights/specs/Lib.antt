pub mod Fitting
pub mod Keeping
pub mod Passed
pub mod Room
pub mod Taking
pub mod Wanting

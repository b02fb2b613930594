pub mod Moments
pub mod Standing

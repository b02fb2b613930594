pub mod Recency
pub mod Slabbed
pub mod Slotted
pub mod Standing
mod Written

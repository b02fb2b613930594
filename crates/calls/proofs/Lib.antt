mod Asked
mod Lengths
mod Masks
mod Messages
mod RequestLaws
mod Options
pub mod PlainReplies
mod Encoded
mod Room

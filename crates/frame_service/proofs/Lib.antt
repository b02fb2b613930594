mod Acting
pub mod Answered
mod Boxes
mod Ended
mod Going
pub mod Keeping
mod Lives
mod Sent
mod Steps
mod Turns

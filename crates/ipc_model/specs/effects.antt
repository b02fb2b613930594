-- What is set off when rights go.
pub mod Effects

pub mod Beginnings
pub mod Knowing
pub mod Leading
pub mod Links
pub mod Moves
pub mod Placed
pub mod Places

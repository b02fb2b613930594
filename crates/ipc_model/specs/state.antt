-- The states of the machine, every right with its place, circles of ports, and which states are lawful.
pub mod Circular
pub mod Ipc
pub mod Lawful
pub mod LawfulState
pub mod Placed
pub mod State
pub mod StateCode

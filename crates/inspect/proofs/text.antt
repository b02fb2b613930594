mod Counted
mod Drawn
mod Listed
mod Reported
mod Walked
mod Lines

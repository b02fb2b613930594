mod Pieces
mod Room
mod Steps
mod Storing
mod Whole

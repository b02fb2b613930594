mod Ended
mod Keeping
mod Making
mod Confining
mod Crashing
mod Staying
mod Words

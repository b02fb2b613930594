mod Handed
mod Listed
mod Moved
mod Asking

mod Closings
mod Unconfined

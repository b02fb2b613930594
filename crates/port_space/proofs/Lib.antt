mod Answering
mod Bounds
mod ByPort
mod Free
mod Standing
mod Staying

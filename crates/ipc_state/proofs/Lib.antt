mod Membership
mod Kept
mod Releasing
mod Alive
mod Taking
mod Covering

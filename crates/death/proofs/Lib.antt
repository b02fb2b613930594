mod Dying
mod Working

mod Holding
mod Telling
mod Turning

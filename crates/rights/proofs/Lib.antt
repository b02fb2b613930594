mod Leaving
mod Arriving
mod Naming
mod OnTheWay

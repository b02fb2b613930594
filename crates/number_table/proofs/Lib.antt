mod Lent
mod Shown

mod Lent
mod Viewed

mod Fronts
mod Growing
mod Halves
mod Ordered
mod Standing
mod Times

pub mod Apart
mod Belongings
pub mod Calling
mod Calls
mod Cores
mod Cutting
mod Destroyed
pub mod Histories
mod Meetings
mod Since
mod StoreSteps
mod Storers
mod Taking

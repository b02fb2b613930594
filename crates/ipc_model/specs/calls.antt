-- The tests and actions of the calls, steps and runs.
pub mod Actions
pub mod PlainRefusals
pub mod PlainStep
pub mod PortCalls
pub mod Refusals
pub mod Step
pub mod Tests

-- What the slots of a store encode, which state is recovered from them, and why none is.
pub mod Faults
pub mod Recovery
pub mod Store

pub mod Appending
pub mod Belonging
pub mod Destroying
pub mod Faults
pub mod Keeping
pub mod Storing
pub mod Tokens

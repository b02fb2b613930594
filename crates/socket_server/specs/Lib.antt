pub mod Closing
pub mod Confining
pub mod Connecting
pub mod Reporting
pub mod Serving

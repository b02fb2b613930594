pub mod Asking
pub mod Boxes
pub mod Confining
pub mod Conversing
pub mod Serving

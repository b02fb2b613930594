mod Shapes
pub mod phases

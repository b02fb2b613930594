pub mod HeaderLaws
pub mod Headers

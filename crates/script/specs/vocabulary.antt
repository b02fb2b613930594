pub mod Codes
pub mod Items
pub mod Kinds
pub mod Numbers
pub mod Spaced
pub mod Verbs

pub mod Numbers
pub mod WordLaws
pub mod Words

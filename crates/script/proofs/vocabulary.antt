pub mod WordsOf

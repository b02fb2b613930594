pub mod Changes
pub mod Counting
pub mod Values
pub mod epoch_log
pub mod phases

-- Legal histories: what several sessions make of one list of records, in which numbered calls are made once.
pub mod History
pub mod Once

pub mod Drawing
pub mod Examples
pub mod Gathering
pub mod Holders
pub mod Listing
pub mod Rows
pub mod Strokes
pub mod Walking

pub mod Rows
pub mod Fitting
pub mod Parts
pub mod RowLaws
pub mod Taking
pub mod Kept
pub mod LawfulFits

-- How rights enter and leave a space's names.
pub mod CopyIn
pub mod CopyOut
pub mod Dispositions

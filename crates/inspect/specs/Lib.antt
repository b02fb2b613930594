pub mod Copied
pub mod Looked
pub mod Printed
pub mod Program
pub mod still_disk
pub mod live_reading
pub mod text

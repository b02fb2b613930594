pub mod Disposition
pub mod KernReturn
pub mod MessageOptions
pub mod Right
pub mod StoreVersion

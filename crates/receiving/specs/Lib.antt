pub mod ReceiveLaws
pub mod ShownNames
pub mod Shows
pub mod SourceLaws
pub mod Sources
pub mod Taking
pub mod TakingLaws

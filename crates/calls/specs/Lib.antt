pub mod PlainReplies
pub mod Replies
pub mod Requests
pub mod Rows
pub mod Shapes

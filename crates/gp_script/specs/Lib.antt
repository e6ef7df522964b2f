pub mod Answering
pub mod History
pub mod Replies
pub mod Run
pub mod Scripts

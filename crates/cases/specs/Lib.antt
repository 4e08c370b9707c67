pub mod Case
pub mod Output
pub mod Places
pub mod Replies

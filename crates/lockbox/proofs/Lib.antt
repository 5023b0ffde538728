pub mod Seen
pub mod Merging
pub mod Following
pub mod Fresh
pub mod OneRequest

pub mod Unique
pub mod Building
pub mod Joined
pub mod Determined
pub mod OneSpan

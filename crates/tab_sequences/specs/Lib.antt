pub mod Keys
pub mod Changes
pub mod Finding
pub mod Covers
pub mod ChangeLaws

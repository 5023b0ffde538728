pub mod Loads
pub mod Steps

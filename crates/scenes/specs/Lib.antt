pub mod Script
pub mod Asking
pub mod Publishing
pub mod Rows
pub mod Bounds
pub mod Supervising

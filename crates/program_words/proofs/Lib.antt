pub mod Spelled
pub mod Digits
pub mod Taken
pub mod Rows

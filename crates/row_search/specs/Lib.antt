pub mod Reached
pub mod Classes
pub mod Digests
pub mod Listed
pub mod Starts

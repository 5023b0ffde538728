pub mod Refused
pub mod Submitting
pub mod Waiting
pub mod Ending

pub mod Soundness
pub mod Reached

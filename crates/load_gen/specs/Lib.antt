pub mod Draws
pub mod Blocks
pub mod Load
pub mod Summary

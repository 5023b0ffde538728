pub mod Sweep
pub mod Chunks
pub mod Marks
pub mod Turns
pub mod Contents
pub mod Looks
pub mod Covers

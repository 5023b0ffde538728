pub mod Digests
pub mod Groups
pub mod Index

pub mod Pairs
pub mod Moments
pub mod Stores
pub mod Finding
pub mod Faults

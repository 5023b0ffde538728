pub mod Sets
pub mod Condensing
pub mod Starts

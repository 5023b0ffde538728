pub mod Numbers
pub mod Counting
pub mod Rows
pub mod Sequences
pub mod Cores
pub mod Joined

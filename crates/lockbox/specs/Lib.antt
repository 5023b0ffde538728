pub mod Searches
pub mod Decided

pub mod Done
pub mod Refused
pub mod Decisions
pub mod Allocations
pub mod Managed
pub mod Ends
pub mod Publishing

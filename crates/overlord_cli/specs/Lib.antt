pub mod Untold
pub mod Statuses

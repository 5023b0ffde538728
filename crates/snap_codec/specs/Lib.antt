pub mod Fields
pub mod Rows
pub mod Fits
pub mod Readers
pub mod Grammar
pub mod Outcomes
pub mod Snapshots
pub mod Earlier

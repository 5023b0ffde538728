pub mod Apart
pub mod Ascending
pub mod Joining
pub mod Repeated
pub mod Rooting

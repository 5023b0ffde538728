pub mod Reading
pub mod Faults
pub mod Values
pub mod Lists
pub mod Lines

pub mod Rows
pub mod Led
pub mod Greatest
pub mod Unused
pub mod Places
pub mod Distinct
pub mod KeyPlaces

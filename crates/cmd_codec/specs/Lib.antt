pub mod Fields
pub mod Spelling
pub mod Faults
pub mod Outcomes
pub mod Reading
pub mod Records
pub mod Earlier
pub mod Pairs

pub mod Spelling
pub mod Objects
pub mod Refusals
pub mod Lines

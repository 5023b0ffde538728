pub mod Ascending
pub mod Counting
pub mod Numbering
pub mod Parting

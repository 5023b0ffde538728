pub mod Extent
pub mod Condensed

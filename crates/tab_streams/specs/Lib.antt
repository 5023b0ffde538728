pub mod StreamRows
pub mod Order
pub mod ByName
pub mod Keys
pub mod Numbered
pub mod Covers

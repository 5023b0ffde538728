pub mod Covers
pub mod Keys
pub mod PendingRows
pub mod Searches

pub mod Shown
pub mod PartLists
pub mod Edges
pub mod Filling
pub mod Rows
pub mod Sources
pub mod Laws

pub mod Leaving
pub mod Granting
pub mod Keys
pub mod Laws
pub mod Updates
pub mod UpdateLaws

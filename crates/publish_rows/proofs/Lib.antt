pub mod Turned
pub mod NewRows
pub mod UsedUp

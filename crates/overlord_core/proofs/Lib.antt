pub mod Conditions
pub mod ResetOutcomes
pub mod Whole
pub mod Plans
pub mod SupOutcomes
pub mod TickOutcomes

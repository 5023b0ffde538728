pub mod Comparing
pub mod Effects
pub mod Lookups
pub mod Tiling
pub mod Coverage
pub mod OffsetShape

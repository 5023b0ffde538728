pub mod TaskCases
pub mod Day
pub mod LockCases
pub mod PlaceCases
pub mod PublishCases
pub mod MeaningCases

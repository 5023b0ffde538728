pub mod TaskCaseLaws
pub mod DayBooks
pub mod DayLaws
pub mod LockCaseLaws
pub mod PlaceCaseLaws
pub mod PublishCaseLaws
pub mod MeaningCaseLaws

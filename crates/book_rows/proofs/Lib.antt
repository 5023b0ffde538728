pub mod EmptySound
pub mod StepLaws

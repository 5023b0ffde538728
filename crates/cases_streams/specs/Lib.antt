pub mod OffsetCases
pub mod SequenceScenes
pub mod SequenceCases
pub mod MoveCases
pub mod PublishCases
pub mod RuleCases

pub mod SoundScenes
pub mod LimitCases
pub mod KeyCases

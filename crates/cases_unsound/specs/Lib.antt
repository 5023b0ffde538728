pub mod SoundBook
pub mod LimitCases
pub mod KeyCases
pub mod ChunkCases
pub mod HistoryCases

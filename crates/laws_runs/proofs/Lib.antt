pub mod FormedRecords
pub mod GoodBooks
pub mod SoundRuns
pub mod ReachedRuns
pub mod RunRules
pub mod ReplyLines
pub mod ToldParts
pub mod SoundParts

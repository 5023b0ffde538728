pub mod Desk
pub mod Since
pub mod Replay
pub mod ReplayLaws
pub mod Picked
pub mod Image
pub mod MemHost
pub mod MemSource

pub mod LockShape
pub mod Moves
pub mod Commands
pub mod Runs

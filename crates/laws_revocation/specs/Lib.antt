pub mod LockNumbers
pub mod HeldPendings
pub mod LostLocks
pub mod GivenIds
pub mod LostIds
pub mod Commits

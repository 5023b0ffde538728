pub mod LockRows
pub mod Joined
pub mod Reaching

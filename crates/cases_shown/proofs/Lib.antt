pub mod WorkedShown
pub mod WorkedSound
pub mod WorkedRevocation
pub mod WorkedLocks
pub mod WorkedIds
pub mod WorkedAllocated

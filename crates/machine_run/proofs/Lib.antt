pub mod Laws
pub mod OneLogSteps
pub mod Replying
pub mod Items
pub mod BatchSteps
pub mod Exits
mod OpenedFiles
mod Restoring
mod OldStore
mod NewStore
pub mod Untouched
mod Settling
mod ReadTo
pub mod WholeRun

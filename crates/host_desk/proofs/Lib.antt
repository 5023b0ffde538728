pub mod Moments
pub mod FileLists
pub mod Stops
pub mod Images
pub mod Saying
pub mod Opening

pub mod OneItem
pub mod AllItems
pub mod Silence
pub mod LineSteps
pub mod WholeLoad

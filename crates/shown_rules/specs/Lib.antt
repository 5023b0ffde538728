pub mod Stages
pub mod Cuts
pub mod Founds
pub mod History

pub mod OverlordRules
pub mod CommandRules
pub mod LineCommands

pub mod ShownReplies
pub mod RunBooks
pub mod RunCommands
pub mod RunReplies
pub mod RunRules
pub mod ToldParts

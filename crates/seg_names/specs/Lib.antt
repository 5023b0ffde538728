pub mod Names
pub mod Ids
pub mod IdTexts

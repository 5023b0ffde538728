pub mod Acted
pub mod Commits
pub mod Supervised

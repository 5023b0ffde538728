pub mod Conflicts
pub mod Roots

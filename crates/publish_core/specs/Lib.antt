pub mod Answers
pub mod Both
pub mod Kinds
pub mod Memberships
pub mod Tables

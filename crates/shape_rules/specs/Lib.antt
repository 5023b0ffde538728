pub mod Clauses
pub mod Orders

pub mod Conditions
pub mod Deciding
pub mod NewIds
pub mod Leaving
pub mod Naming
pub mod Starting
pub mod Refusing

mod Placed
mod FinerOnes
mod PartsGiven
pub mod Rooms

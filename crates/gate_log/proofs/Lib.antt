mod NumberBytes
mod Records
mod Files
mod Appending
mod Made
mod Filled
mod Heads
mod Progress
pub mod Laws

pub mod Numbers
pub mod Format
pub mod Frame
pub mod Log
pub mod Faults
pub mod Header
pub mod Reading
pub mod Making

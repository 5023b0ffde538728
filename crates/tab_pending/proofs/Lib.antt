pub mod Instants
pub mod RangePlaces
pub mod Spans
pub mod Stripped

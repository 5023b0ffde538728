mod Deciding
pub mod Hulls
pub mod SpanPlaces

pub mod BookCases
pub mod PlaceCases

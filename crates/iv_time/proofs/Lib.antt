pub mod Days
pub mod Walks
pub mod DayDates
pub mod RoundTrip
pub mod Ranges
pub mod Casts

pub mod Range
pub mod Civil
pub mod Texts
pub mod Buckets
pub mod Durations

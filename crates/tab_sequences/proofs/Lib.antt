mod KeyPlaces
mod Names
pub mod Results
mod Changed

pub mod Current
mod PairMoments
mod Adding
pub mod Turning
mod Found
mod Openings
mod Reading

pub mod Encodings
pub mod Instants
pub mod Numbers
pub mod IdAgain
pub mod IdTakes

pub mod Fits
pub mod Ascii
pub mod Floats
pub mod OneLine

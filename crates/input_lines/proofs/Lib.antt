mod Parts
pub mod LineLaws
mod Looking

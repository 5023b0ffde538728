pub mod BlockNames
pub mod Forms
pub mod Hours

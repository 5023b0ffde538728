pub mod BySpan
pub mod NewRows

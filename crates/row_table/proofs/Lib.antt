pub mod RowLemmas
pub mod EditLemmas
pub mod ChangeLemmas
pub mod LeastLemmas
pub mod ListLemmas
pub mod PushLemmas
pub mod UpdateLemmas
pub mod PlaceLemmas

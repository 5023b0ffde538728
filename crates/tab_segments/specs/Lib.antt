pub mod SegmentRows
pub mod Keys
pub mod Leading
pub mod Laws

pub mod LimitLaws
pub mod FullLaws
pub mod BrokenLaws
pub mod FullTableLaws
pub mod SoundBookLaws
pub mod SoundStreamLaws
pub mod SoundReplacedLaws

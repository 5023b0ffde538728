pub mod Spells
pub mod Combined
pub mod SingleFields
pub mod ValueBytes
pub mod MarkBytes
pub mod RowBytes
pub mod BookBytes
pub mod Counted

pub mod Joining
pub mod RecordLaws

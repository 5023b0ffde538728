pub mod WorkedBytes
pub mod LongCores

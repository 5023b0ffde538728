pub mod Allocated

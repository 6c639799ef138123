pub mod Reading
pub mod Ranges
pub mod Writing
pub mod Theorems

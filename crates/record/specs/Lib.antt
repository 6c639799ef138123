pub mod Format
pub mod Views
pub mod Writing
pub mod Promises

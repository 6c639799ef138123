pub mod Parts
pub mod Values
pub mod Meaning

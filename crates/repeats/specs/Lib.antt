pub mod Repeats
pub mod Reading

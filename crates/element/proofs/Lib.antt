pub mod Headers
pub mod Parses
pub mod Writes

pub mod Dates
pub mod Numerals
pub mod Readings

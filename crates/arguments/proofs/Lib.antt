pub mod Prefixes
pub mod Taking
pub mod Written

pub mod Scheme
pub mod Runs
pub mod Meaning

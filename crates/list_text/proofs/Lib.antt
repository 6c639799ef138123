pub mod Steps
pub mod Theorem

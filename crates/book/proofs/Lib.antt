pub mod Said
pub mod Kept

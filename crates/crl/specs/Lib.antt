pub mod Rows
pub mod Extensions
pub mod Lists

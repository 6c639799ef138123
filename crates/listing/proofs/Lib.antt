pub mod Writes
pub mod Lists
pub mod Addresses
pub mod Tellings

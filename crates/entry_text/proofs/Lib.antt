pub mod Elements
pub mod Pairs
pub mod Points
pub mod Numbers
pub mod AsNumbers
pub mod Addresses
pub mod Families

pub mod Order
pub mod Least
pub mod First
pub mod Sorting
pub mod Places
pub mod Looking

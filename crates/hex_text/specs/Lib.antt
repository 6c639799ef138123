pub mod Digits
pub mod Laws

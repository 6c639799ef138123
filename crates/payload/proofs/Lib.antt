pub mod Shifts
pub mod Comparing
pub mod Orders
pub mod Members
pub mod Blocks
pub mod Laws

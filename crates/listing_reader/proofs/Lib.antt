pub mod Fronts
pub mod Orders
pub mod Steps
pub mod Lines
pub mod Laws

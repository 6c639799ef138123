pub mod Fronts
pub mod Steps
pub mod Written

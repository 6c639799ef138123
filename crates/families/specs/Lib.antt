pub mod Families
pub mod Numbers

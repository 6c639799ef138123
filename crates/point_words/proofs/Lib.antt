pub mod Parts
pub mod Narrow
pub mod Wide
pub mod Families

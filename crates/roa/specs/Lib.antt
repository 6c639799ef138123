pub mod Rows
pub mod Roas
pub mod Filling
pub mod Most
pub mod Gathering

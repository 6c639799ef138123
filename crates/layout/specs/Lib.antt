pub mod Expecting
pub mod Rows

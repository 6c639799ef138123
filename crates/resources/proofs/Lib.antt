pub mod Steps
pub mod Rows
pub mod Forwards
pub mod Says
pub mod Wholes
pub mod Answered

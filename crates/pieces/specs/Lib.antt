pub mod Marks
pub mod Views

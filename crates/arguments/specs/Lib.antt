pub mod Words
pub mod Arguments
pub mod Views

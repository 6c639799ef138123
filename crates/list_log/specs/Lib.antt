pub mod Lists
pub mod Views

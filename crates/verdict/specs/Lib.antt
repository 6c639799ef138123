pub mod Routes
pub mod Laws

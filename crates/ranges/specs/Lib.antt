pub mod Sets
pub mod Walks
pub mod Joins

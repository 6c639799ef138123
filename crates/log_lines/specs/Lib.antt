pub mod Sets
pub mod Oracles
pub mod Views

pub mod Addresses
pub mod Numbers
pub mod Kinds
pub mod Forms

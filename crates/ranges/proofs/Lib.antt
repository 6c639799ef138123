mod Steps
mod Merging
mod Area
pub mod Tested
pub mod Containment
pub mod Canonical
pub mod Union

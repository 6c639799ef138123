pub mod Steps
pub mod Widths
pub mod Numbers
pub mod Quads
pub mod Runs
pub mod Laws

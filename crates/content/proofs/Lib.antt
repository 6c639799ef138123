mod Loops
pub mod Decided
pub mod Valued

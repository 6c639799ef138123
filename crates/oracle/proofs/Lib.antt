pub mod Blocks
pub mod Verdicts

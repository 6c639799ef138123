pub mod Walks
pub mod Verdicts
pub mod Laws
pub mod Blocks
pub mod Cuts

pub mod Lengths
pub mod Reading
pub mod Grammar
pub mod Writing

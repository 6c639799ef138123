pub mod Entries
pub mod Sizes
pub mod Deciding
pub mod Lending

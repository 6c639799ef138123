pub mod Manifests
pub mod Steps
pub mod Lending

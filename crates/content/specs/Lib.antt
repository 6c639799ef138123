pub mod Tags
pub mod Forms
pub mod Grammar
pub mod Values

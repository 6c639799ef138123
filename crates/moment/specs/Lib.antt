pub mod Calendar
pub mod Times

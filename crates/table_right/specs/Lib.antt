pub mod Calls
pub mod Right

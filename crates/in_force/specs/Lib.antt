pub mod Back
pub mod Bytes

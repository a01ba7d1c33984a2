pub mod Hex
pub mod Heard

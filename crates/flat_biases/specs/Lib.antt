pub mod Biases
pub mod Codes

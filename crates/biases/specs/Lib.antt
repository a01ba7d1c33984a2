pub mod Biases

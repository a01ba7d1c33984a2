pub mod Next
pub mod Epochs

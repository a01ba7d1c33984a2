pub mod Make
pub mod Check
pub mod Units
pub mod Theorems

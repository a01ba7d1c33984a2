pub mod Held
pub mod Drop
pub mod Digits

pub mod Same
pub mod Checking

pub mod Fits
pub mod Write

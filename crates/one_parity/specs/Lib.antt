pub mod Inverse
pub mod OneParity

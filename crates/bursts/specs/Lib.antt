pub mod Run
pub mod Burst
pub mod Subframe2

pub mod D1
pub mod Cnav1

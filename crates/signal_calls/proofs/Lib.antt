pub mod D1Laws
pub mod Cnav1Laws

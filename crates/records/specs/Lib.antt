pub mod Signed
pub mod Orbit
pub mod Clock

pub mod Limits
pub mod Demand2

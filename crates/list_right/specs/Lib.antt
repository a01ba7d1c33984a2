pub mod InForce
pub mod Right
pub mod Good
pub mod Examples
pub mod Frames
pub mod Codes

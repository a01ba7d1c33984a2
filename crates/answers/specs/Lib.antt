pub mod Size
pub mod Detail
pub mod Sized

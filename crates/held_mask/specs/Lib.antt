pub mod Size
pub mod Mask
pub mod OldForm

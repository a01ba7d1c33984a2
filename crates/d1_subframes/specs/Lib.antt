pub mod Subframe

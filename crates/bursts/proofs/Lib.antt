pub mod WindowLaws
pub mod BurstLaws
pub mod RunLaws
pub mod Caught
pub mod Subframe2Caught
pub mod TestLaws
pub mod Examples
pub mod Subframe2Examples

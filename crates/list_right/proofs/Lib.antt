pub mod ListRight
pub mod AcceptedLaws
pub mod FramesLaws
pub mod Examples
pub mod Codes

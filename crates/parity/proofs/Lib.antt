pub mod ParityLaws
pub mod GroupLaws
pub mod UnpackedLaws

pub mod CheckLaws
pub mod EightLaws
pub mod Examples

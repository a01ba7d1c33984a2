pub mod EightLaws
pub mod StepLaws

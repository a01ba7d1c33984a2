pub mod CountLaws
pub mod SoundLaws
pub mod StepLaws
pub mod FrameLaws
pub mod TableRight

pub mod FrameLaws
pub mod VerdictLaws

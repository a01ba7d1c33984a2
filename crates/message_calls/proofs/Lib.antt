pub mod MessageLaws
pub mod MakeLaws

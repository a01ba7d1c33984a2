pub mod MaskLaws
pub mod CaseLaws
pub mod OldFormLaws

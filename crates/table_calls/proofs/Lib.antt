pub mod TableLaws
pub mod TableKept

pub mod UnitLaws
pub mod MakeLaws
pub mod CheckLaws
pub mod Theorems

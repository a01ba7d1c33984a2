mod NewestLaws
pub mod RowLaws
pub mod DigitLaws

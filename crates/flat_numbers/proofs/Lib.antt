pub mod ByteLaws
pub mod DigitLaws
pub mod StoreLaws
pub mod RowLaws

pub mod FilledLaws
pub mod PlaceLaws
pub mod RowLaws

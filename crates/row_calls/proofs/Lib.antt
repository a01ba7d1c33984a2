pub mod RowsLaws
pub mod AllRows

pub mod Allowed
pub mod Sheets
pub mod MoreRows
pub mod Checked

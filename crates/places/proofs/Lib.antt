pub mod KeepLaws
pub mod OnceLaws

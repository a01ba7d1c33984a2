pub mod ProductLaws
pub mod FieldLaws
pub mod LogLaws
pub mod PaddedLaws
pub mod Examples

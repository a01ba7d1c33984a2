pub mod ListLaws
pub mod ReadLaws
pub mod PutLaws
pub mod SatsBack
pub mod BiasesBack

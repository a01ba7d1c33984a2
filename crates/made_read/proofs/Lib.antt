pub mod AgreeLaws
pub mod BiasAgree
pub mod ContentsAgree
pub mod ReadSame

pub mod FitLaws
pub mod WithinLaws
pub mod RawBack
pub mod BesideLaws
pub mod PartBack

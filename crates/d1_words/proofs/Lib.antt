pub mod OverLaws
pub mod CodeLaws
pub mod WordLaws
pub mod Examples

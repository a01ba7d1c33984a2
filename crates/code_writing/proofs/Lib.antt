pub mod CodeLaws
pub mod CodesBack

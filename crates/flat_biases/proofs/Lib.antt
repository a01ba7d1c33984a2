pub mod FlatLaws
pub mod BackLaws

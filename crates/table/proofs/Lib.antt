pub mod CallLaws
pub mod KeptLaws

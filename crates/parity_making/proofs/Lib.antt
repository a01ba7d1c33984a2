pub mod Ring
pub mod WalkLaws

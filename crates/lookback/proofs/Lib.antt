pub mod ReplaceLaws
pub mod StoreLaws
pub mod WalkLaws

pub mod AnswerLaws
pub mod FitsLaws

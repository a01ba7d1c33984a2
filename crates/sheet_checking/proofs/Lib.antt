pub mod SameLaws
pub mod CheckLaws
pub mod CountLaws
pub mod AnswerLaws

mod WalkLaws
mod AnswerLaws

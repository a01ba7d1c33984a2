pub mod LoopLaws
pub mod AnswerLaws
pub mod ByteBack
pub mod RoundTrip
pub mod Examples

pub mod ReadingLaws
pub mod PadLaws

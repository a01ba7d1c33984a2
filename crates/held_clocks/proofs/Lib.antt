pub mod ReadLaws
pub mod ClockLaws

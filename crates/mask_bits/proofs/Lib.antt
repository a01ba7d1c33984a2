pub mod ManyLaws
pub mod BitLaws
pub mod PlaceLaws
pub mod StayLaws

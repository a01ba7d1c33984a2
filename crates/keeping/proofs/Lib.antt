pub mod PlacedLaws

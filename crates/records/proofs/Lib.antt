pub mod SignedLaws
pub mod ScaleLaws
pub mod OrbitLaws

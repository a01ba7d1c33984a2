mod ByteLaws
pub mod ReadLaws
pub mod OrbitLaws

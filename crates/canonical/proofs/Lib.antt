pub mod KindLaws
pub mod BiasCanon
pub mod CodeCanon
pub mod CanonLaws

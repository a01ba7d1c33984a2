pub mod Store
pub mod Walk

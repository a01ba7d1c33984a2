pub mod Over
pub mod Code
pub mod Word

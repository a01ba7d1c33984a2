pub mod Message
pub mod Make

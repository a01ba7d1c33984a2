pub mod Pieces
pub mod Cut

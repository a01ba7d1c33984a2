pub mod Bits
pub mod NoPlaceMoves

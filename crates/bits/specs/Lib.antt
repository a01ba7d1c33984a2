pub mod Pick
pub mod Bits
pub mod Table
pub mod Some
pub mod Poly
pub mod Bytes

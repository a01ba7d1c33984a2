pub mod Ura

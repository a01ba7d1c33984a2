pub mod HeldLaws
pub mod DropLaws
pub mod DigitLaws
pub mod PastLaws
pub mod ZeroLaws
pub mod ZigLaws

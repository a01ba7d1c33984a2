pub mod Rows
pub mod SumLaws
pub mod Test
pub mod SolveLaws
pub mod GroupLaws
pub mod EachHasOne
pub mod FrameLaws

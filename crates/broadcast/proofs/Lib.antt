pub mod IssueLaws

pub mod ApartLaws
pub mod KeptLaws
pub mod ViewLaws
pub mod BackLaws
pub mod RefusalLaws
pub mod LogLaws
pub mod ReplayLaws

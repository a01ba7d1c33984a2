pub mod LogLaws
pub mod EpochLaws
mod BitLaws

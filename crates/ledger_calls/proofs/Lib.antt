pub mod LedgerLaws
pub mod ReplayLaws

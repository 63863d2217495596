pub mod Ledger
pub mod Commits
pub mod Works
pub mod Looks
pub mod Opens

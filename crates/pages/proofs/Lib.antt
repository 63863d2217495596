pub mod Cuts
pub mod Mid

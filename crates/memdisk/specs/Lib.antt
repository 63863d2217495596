pub mod Bounded
pub mod Entries
pub mod Counts
pub mod Mixing
pub mod Dues
pub mod Memory

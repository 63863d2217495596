pub mod Retaining
pub mod Counting
pub mod Places
pub mod Table
pub mod Entries
pub mod Counts
pub mod Leaving
pub mod Disks

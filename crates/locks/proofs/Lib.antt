pub mod Bits
pub mod Ways

pub mod Spots
pub mod Sanely
pub mod Turns

pub mod Batch
pub mod Turns
pub mod Changed
mod Words
pub mod Slots
pub mod Tables
pub mod Shown

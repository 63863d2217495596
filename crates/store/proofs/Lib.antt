pub mod Words
pub mod Over
pub mod Media
pub mod Places
pub mod Grows
pub mod Lasts
pub mod Installs
pub mod Shots
pub mod Cached
pub mod Takes
pub mod Batches
pub mod Comes
pub mod Views
mod Changing
pub mod Queued

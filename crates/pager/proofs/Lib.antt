pub mod Links
pub mod Frees
pub mod Grounds
pub mod Steps
pub mod Acts
pub mod Calls

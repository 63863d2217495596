pub mod State
pub mod Tree
pub mod Grow
pub mod Shrink
pub mod Done

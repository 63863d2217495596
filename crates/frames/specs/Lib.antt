pub mod Layout
pub mod Frames
pub mod Columns
pub mod Changes

pub mod Tags
pub mod Lines
pub mod Rings
pub mod Changes
pub mod Marks
pub mod Tables

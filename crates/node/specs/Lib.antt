pub mod Layout
pub mod Pairs
pub mod Node

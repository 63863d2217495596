pub mod Sets
pub mod Graphs
pub mod Chosen
pub mod Bars

pub mod Words
pub mod Circle
pub mod Changes
pub mod Going
pub mod Parts

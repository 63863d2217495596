pub mod Text
pub mod Order
pub mod Shown
pub mod Words
pub mod Held

pub mod Medium
pub mod Head
pub mod State
pub mod Store
pub mod Queue
pub mod HeadPages
pub mod Lent

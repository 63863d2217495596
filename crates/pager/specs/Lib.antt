pub mod Ground
pub mod Volume

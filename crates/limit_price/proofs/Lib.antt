pub mod Limits
pub mod Lots

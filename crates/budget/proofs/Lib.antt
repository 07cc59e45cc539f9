pub mod Deciding
pub mod Sizing

pub mod Blocks
pub mod First

pub mod Library
pub mod Subnormal

pub mod Known
pub mod Refusals

pub mod Known
pub mod Searching

pub mod CountSheet
pub mod Known
pub mod Meaning
pub mod Rows

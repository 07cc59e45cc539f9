pub mod Bytes
pub mod Decode
pub mod Known
pub mod Meaning
pub mod Print

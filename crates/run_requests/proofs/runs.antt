-- Laws of the module `runs`.
pub mod Room
pub mod Rows

-- Laws that belong to no one function, on plain values.
pub mod Filling
pub mod Going
pub mod Spelling

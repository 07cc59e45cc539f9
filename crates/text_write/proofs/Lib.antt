-- Laws that belong to no one function, on plain values.
pub mod Appending
pub mod Putting

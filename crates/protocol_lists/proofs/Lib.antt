-- Laws that belong to no one function, on plain values.
pub mod Listing
pub mod Reading

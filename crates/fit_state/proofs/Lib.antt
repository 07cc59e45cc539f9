pub mod Flats
pub mod Places
pub mod Searching
pub mod Sums

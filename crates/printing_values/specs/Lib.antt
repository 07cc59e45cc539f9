-- What the values of a reply are printed as.
pub mod Rows
pub mod Texts
pub mod Values

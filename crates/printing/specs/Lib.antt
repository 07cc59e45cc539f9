-- What a reply is printed as.
pub mod Known
pub mod Lines

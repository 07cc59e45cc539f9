-- Laws for `powi`, on plain values.
pub mod Turns

-- Laws that belong to no one function, on plain values.
pub mod Fractions
pub mod Spans

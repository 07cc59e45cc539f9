-- Laws that belong to no one function, on plain values.
pub mod Refusing
pub mod Rowing

-- Laws that belong to no one function.
pub mod Products
pub mod Turns
pub mod WholeMixture

pub mod Fitting
pub mod Fronts
pub mod Several

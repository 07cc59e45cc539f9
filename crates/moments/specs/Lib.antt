pub mod Comb
pub mod Constants
pub mod ExactMixture
pub mod Figures
pub mod Lists
pub mod Mixture
pub mod Orders
pub mod Refusals

pub mod Binomial
pub mod CombTable
pub mod Examples
pub mod Remaking

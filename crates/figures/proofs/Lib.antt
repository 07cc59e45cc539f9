pub mod Computed
pub mod Walked

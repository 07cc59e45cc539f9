pub mod Figures
pub mod Grids
pub mod LimitPrices
pub mod Walks

pub mod Budget
pub mod Figures
pub mod Sizes

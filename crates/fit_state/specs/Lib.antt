pub mod Errors
pub mod Figures
pub mod Rows
pub mod Search
pub mod State

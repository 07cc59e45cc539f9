pub mod Counting
pub mod Counts
pub mod Figures
pub mod Refusals
pub mod Sorting

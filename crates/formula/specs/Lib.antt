pub mod Degree
pub mod Exact
pub mod Formula
pub mod Met
pub mod Range
pub mod Whole

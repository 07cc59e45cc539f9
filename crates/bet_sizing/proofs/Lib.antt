pub mod Collecting
pub mod Filling
pub mod Netting
pub mod Ranks
pub mod Refusing
pub mod Searching

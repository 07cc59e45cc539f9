-- Laws of the module `spans`.
pub mod Columns

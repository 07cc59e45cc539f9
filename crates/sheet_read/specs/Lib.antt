pub mod Meaning
pub mod Sheet
pub mod SheetErrors
pub mod Spelling

-- Laws that belong to no one function, on plain values.
pub mod Digits
pub mod Placing
pub mod Shorter
pub mod Signs
pub mod Spelling
pub mod Steps

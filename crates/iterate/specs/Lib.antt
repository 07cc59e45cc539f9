pub mod Refusals

pub mod Lists
pub mod Read

-- The requests and their replies.
pub mod Runs

-- How the reply to a line is defined.
pub mod Requests

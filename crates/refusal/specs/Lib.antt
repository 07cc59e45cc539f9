pub mod Numbers
pub mod Rules

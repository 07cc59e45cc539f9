pub mod Refusing
pub mod Rules

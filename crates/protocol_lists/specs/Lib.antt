-- What the contracts of the protocol say.
pub mod Lists

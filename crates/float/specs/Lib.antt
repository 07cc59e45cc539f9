pub mod Constants
pub mod Keys
pub mod Known
pub mod Leaves
pub mod Power
pub mod Root
pub mod Scale
pub mod Upper

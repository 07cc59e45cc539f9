pub mod Degrees
pub mod Examples
pub mod Held
pub mod StepScale
pub mod WalkScale

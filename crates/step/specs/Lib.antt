pub mod Constants
pub mod ExactSteps
pub mod Parts
pub mod StepNumbers
pub mod Steps
pub mod Weight

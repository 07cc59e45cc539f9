-- Laws that belong to no one function.
pub mod FirstHalf
pub mod StepRuns
pub mod Weight
pub mod WholeSteps

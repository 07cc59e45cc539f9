-- Laws of formulas, each stated once.
pub mod Exact
pub mod Integers
pub mod OperationScale
pub mod Powers
pub mod Quotient
pub mod Ring
pub mod Root
pub mod RoundScale
pub mod Runs
pub mod Scaled
pub mod Tests
pub mod Values
pub mod WholePrograms
pub mod WholeRuns

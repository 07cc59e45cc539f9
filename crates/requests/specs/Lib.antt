-- The reply to a line, and what it leaves.
pub mod Lines

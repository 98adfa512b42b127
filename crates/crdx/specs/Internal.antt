-- What private contracts alone cite: members by their names, what a loop knows, and why a run has no answer.
pub mod Members
pub mod Block
pub mod PartialLines
pub mod Progress
pub mod PatternsFound
pub mod Cause
pub mod Found
pub mod Judge
pub mod LineProgress
pub mod ObjectInputs
pub mod ExitStatus
pub mod CheckText

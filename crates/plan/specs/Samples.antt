-- What samples are made of.
pub mod Site
pub mod Leasts
pub mod Over
pub mod Part
pub mod Names
pub mod Presence
pub mod Sites
pub mod Question
pub mod Candidates
pub mod Steps
pub mod Sizes
pub mod RuleOfParts
pub mod NoDeadEnd
pub mod Keys
pub mod ByPlace

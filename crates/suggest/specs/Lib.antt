-- What the contracts of this crate say, in words of its subject.
pub mod Suggested
pub mod View
pub mod Internal

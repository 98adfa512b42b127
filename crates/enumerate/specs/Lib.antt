-- What the contracts of this crate say, in words of its subject.
pub mod Least
pub mod Page
pub mod Limit
pub mod View
pub mod Live
pub mod Change
pub mod Internal

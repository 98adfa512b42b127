-- What the contracts of this crate say, in words of its subject.
pub mod Objects
pub mod Schemas
pub mod Internal

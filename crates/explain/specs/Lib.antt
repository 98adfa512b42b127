-- What the contracts of this crate say, in words of its subject.
pub mod Paths
pub mod Fields
pub mod Internal

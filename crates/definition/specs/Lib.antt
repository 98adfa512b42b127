-- What the contracts of this crate say, in words of its subject.
pub mod Rules
pub mod Texts
pub mod Reading
pub mod Fields
pub mod Parts
pub mod Schemas
pub mod Broken
pub mod Faults
pub mod Internal

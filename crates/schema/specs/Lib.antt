-- What the contracts of this crate say, in words of its subject.
pub mod Document
pub mod Rules
pub mod Nodes
pub mod Internal

-- For private contracts and for proofs.
pub mod FieldCode
pub mod Reading
pub mod Resolving
pub mod ListedByLevel

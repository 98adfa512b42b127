-- The nodes of a schema that breaks no rule.
pub mod Node
pub mod Validations
pub mod ByPlace
pub mod Items
pub mod Junctors
pub mod Shape
pub mod View

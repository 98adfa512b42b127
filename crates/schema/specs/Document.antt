-- What is in a document: the definition that it is, the schema of a version with its places, forms and limits, and
-- what a fault says.
pub mod Texts
pub mod Raw
pub mod Crd
pub mod Places
pub mod Forms
pub mod Limits
pub mod ReadFault
pub mod Refusal

-- The fields that a schema declares.
pub mod TypeText
pub mod Field
pub mod View
pub mod Declared
pub mod PathFault

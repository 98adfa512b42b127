-- The paths of the fields of a schema.
pub mod FieldPath
pub mod PathText
pub mod FieldOrder
pub mod StepView

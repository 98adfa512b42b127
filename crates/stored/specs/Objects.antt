-- What becomes of an object under the nodes of a schema.
pub mod Parts
pub mod Tests
pub mod Fault
pub mod AllFaults
pub mod Becomes
pub mod StrictFaults
pub mod StoredByParts
pub mod Leaves

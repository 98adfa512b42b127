-- The values that samples may hold, and the documents that list them.
pub mod Pools
pub mod Document
pub mod PoolsFault
pub mod Oversized
pub mod FixedPaths
pub mod PlanFault
pub mod PathSteps
pub mod Along

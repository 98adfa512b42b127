-- What private contracts cite.
pub mod ValidByLevel
pub mod FailuresByLevel
pub mod ItemKeys
pub mod DefaultList
pub mod Becoming
pub mod Fields
pub mod Pruning
pub mod Defaulting
pub mod FilledTest
pub mod LeavesByLevel

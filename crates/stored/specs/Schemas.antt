-- Which schemas are accepted.
pub mod Defaults
pub mod Accepted

-- What only private clauses cite.
pub mod Tables
pub mod Lists
pub mod Laws
pub mod PartLaws
pub mod LeastLaws
pub mod Values
pub mod Arena
pub mod PoolBreak
pub mod PoolsCode
pub mod PathLists
pub mod Building
pub mod Keyed
pub mod Plan
pub mod Widest
pub mod Frame
pub mod Way
pub mod Renewed

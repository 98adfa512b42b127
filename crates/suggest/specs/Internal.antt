-- What only private clauses cite.
pub mod Finding
pub mod Parts
pub mod Faults

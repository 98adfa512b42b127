-- What only private contracts cite.
pub mod First
pub mod Known
pub mod Narrowed
pub mod Ways

-- What proofs need: the laws of lookups and of the orders, and what the code's types need as data.
pub mod Lookups
pub mod PathLaws
pub mod MemberLaws
pub mod Rising
pub mod OrderByLaws
pub mod OrderLaws
pub mod EqualityLaws
pub mod Code
pub mod Entries
pub mod Measures
pub mod LastText
pub mod Steps
pub mod LineParts

-- What formats are.
pub mod Names
pub mod Expressions
pub mod Addresses
pub mod Days
pub mod Hostnames
pub mod Digits
pub mod Durations
pub mod Formats
pub mod View

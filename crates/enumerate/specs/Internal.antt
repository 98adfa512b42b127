-- What only private contracts cite.
pub mod Nodes
pub mod Candidates
pub mod Rows
pub mod Lists
pub mod Current
pub mod Steps
pub mod Moves
pub mod Membership
pub mod Roots
pub mod Following
pub mod Prefixes
pub mod Walks
pub mod Changes
pub mod Answers

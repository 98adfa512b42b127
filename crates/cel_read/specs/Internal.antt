-- What contracts of private functions say.
pub mod Runs
pub mod Reading
pub mod Found
pub mod Kept

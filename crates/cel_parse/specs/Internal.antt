-- What contracts of private functions say.
pub mod Readers
pub mod Reading
pub mod Views
pub mod Answers

-- What the contracts of this crate say, in words of its subject.
pub mod Lexemes
pub mod Tokens
pub mod View
pub mod Internal

-- What the contracts of this crate say, in words of its subject.
pub mod Forms
pub mod Words
pub mod Calls
pub mod Literals
pub mod Grammar
pub mod Internal

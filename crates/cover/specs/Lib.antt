-- What the contracts of this crate say, in words of its subject.
pub mod There
pub mod Wanted
pub mod Cover
pub mod Covering
pub mod View
pub mod Internal

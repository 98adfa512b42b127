-- What a pattern means.
pub mod Meaning
pub mod Internal

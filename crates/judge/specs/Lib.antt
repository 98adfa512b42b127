pub mod Envelope
pub mod Keywords
pub mod Meets
pub mod Asked
pub mod Faults
pub mod Patterns
pub mod Internal

-- What is written, and what is out where writing fails.
pub mod Envelope
pub mod Line
pub mod Sink
pub mod Walk
pub mod PartialOutput
pub mod WalkResult

-- What is before a slot.
pub mod Lemmas

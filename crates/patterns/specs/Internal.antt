-- What private contracts and models say.
pub mod Compiled

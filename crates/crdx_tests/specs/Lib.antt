-- Which lines the fake inputs have.
pub mod ComingLines

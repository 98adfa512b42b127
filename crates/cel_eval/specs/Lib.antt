-- What an expression gives, in reading order.
pub mod Outcome
pub mod View
pub mod Truth
pub mod Operators
pub mod Ranges
pub mod Making
pub mod Eval
pub mod Laws
pub mod Internal

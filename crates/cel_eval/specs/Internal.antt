-- What only contracts of private functions and proofs need.
pub mod Numbers
pub mod Views

-- The lemmas of this crate: `FakeLemmas` says which lines bytes have.
pub mod FakeLemmas

-- Leaves: the candidates, and the first of them for which something holds.
pub mod Lemmas

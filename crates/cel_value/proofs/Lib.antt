-- Lemmas.
mod TextLemmas
mod SameLemmas

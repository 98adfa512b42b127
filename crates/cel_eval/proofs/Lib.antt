-- Lemmas.
mod ListLemmas
mod TruthLemmas
mod OperatorLemmas
mod RangeLemmas
mod MakingLemmas
mod LawLemmas

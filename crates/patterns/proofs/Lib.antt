-- The lemmas of this crate. `PatternLemmas`: what a text is read as, and that a compiled pattern matches so.
pub mod PatternLemmas

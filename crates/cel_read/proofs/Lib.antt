-- The lemmas of this crate. `SpellingLemmas`: the characters and the digits of a text; `RunLemmas`: how far characters of a class go on;
-- `BodyLemmas`: how the reading of a string goes on; `Readers`: readers that are sound and go as far as the longest lexeme, and two of them as
-- one; `PlainLemmas`, `NumberLemmas`, `StringLemmas`: that those of each sort of lexeme are; `LexemeLemmas`: that all are, together;
-- `TokenLemmas`: the tokens of a text, one after another.
pub mod SpellingLemmas
pub mod RunLemmas
pub mod BodyLemmas
pub mod Readers
pub mod PlainLemmas
pub mod NumberLemmas
pub mod StringLemmas
pub mod LexemeLemmas
pub mod TokenLemmas

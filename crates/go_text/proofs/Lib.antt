-- The lemmas of this crate. `TextLemmas`: how a text is cut, split and compared, one character more; `WritingLemmas`: the characters of a
-- text with more at its end; `MemberLemmas`: how the reading of the members of a class goes on; `ConstructLemmas`: the same of the constructs
-- of a pattern.
pub mod TextLemmas
pub mod WritingLemmas
pub mod MemberLemmas
pub mod ConstructLemmas

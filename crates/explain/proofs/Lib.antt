-- The lemmas of this crate, by subject.
-- The listing: `ListedLemmas` says that the walk by levels lists the declared paths, in order; `WalkLemmas` how the walk adds a field
-- and those below it to its list; `FoundLemmas` that the field at a path is found in the list of all fields.
-- The texts of paths: `LetterLemmas` says that a step is read back from its text, `ReadingLemmas` that the reading accepts exactly the
-- texts of paths, `ResolvingLemmas` to which node the text of a path leads.
-- `ListLemmas`: lists that are equal have equal first elements and equal rests.
pub mod ListLemmas
pub mod LetterLemmas
pub mod ReadingLemmas
pub mod ResolvingLemmas
pub mod WalkLemmas
pub mod ListedLemmas
pub mod FoundLemmas

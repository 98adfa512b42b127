-- The lemmas of this crate, by subject.
-- Reading: `Reading` goes from a JSON value to a tree, one part at a time; `Sources` says what was taken of a source, one piece at a
-- time; `ReadingAll` goes from a document to a tree with all numbers, `MapEntries` is about the members that go through a map there;
-- `TwoReadings` compares the two readings; `Printed` says that the tokens of a tree print as its compact text, `ReadBack` that this
-- text reads back to the tree.
-- Refusals: `OtherNumber` is about the first number that is not an integer of 64 bits, `NumberText` about its text in the document.
-- Order: `OrderSteps` has the steps of the comparison, `OrderWords` that the comparison agrees with the order in words; `SameValues`
-- has the steps of the comparison by the values of numbers.
-- The last node: `LastNode` is about the tree with its last node replaced, `LastText` says that the texts then differ only there,
-- `PartText` is about the text from one of the last parts on.
-- Members: `MemberPlaces` is about the place of a name among them.
-- Pointers: `Escapes` is about the characters that a pointer writes unchanged.
pub mod Escapes
pub mod LastNode
pub mod LastText
pub mod PartText
pub mod OrderSteps
pub mod OrderWords
pub mod SameValues
pub mod EqualitySteps
pub mod NumberText
pub mod OtherNumber
pub mod Reading
pub mod MapEntries
pub mod ReadingAll
pub mod TwoReadings
pub mod Printed
pub mod ReadBack
pub mod Sources
pub mod LineLemmas
pub mod MemberPlaces

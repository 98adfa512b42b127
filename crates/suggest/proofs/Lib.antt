-- The lemmas of this crate, by subject.
-- Ascending lists: `AscendingLemmas` says that sorting keeps the elements, each once, and that the result is the only such list.
-- Objects without the paths that never occur: `WithoutLemmas` is about what the code leaves of them.
-- What is found: `LeafValueLemmas` is about the values of a node, `VaryLemmas` about what is suggested around an object, `JudgingLemmas` about
-- the first text that has a fault.
-- The document: `DocumentLemmas` is about lists of trees and members as the code makes them. `FormLemmas` says that pools are read from the document, and which. `PathLemmas` says where what is suggested stands in
-- the schema, `RootLemmas` that the root is no leaf, and `GoodLemmas` that all paths of the document lead where they have to.
-- `NumberLemmas` says that by this project's own profile no node is one of numbers.
-- The law `suggested_values_reach_scalars`: `FitLemmas` says that the integers have 64 bits, `ReachLemmas` which scalars the suggested
-- values reach.
-- Pools around an object: `EntryLemmas` says what is found under a text in a suggested document, `SuggestionLemmas` what is suggested at a text,
-- `VariedSampleLemmas` is the law `samples_are_the_object_outside`. Of the law `the_object_is_a_sample`, `UncutLemmas` is about values and
-- names that are chosen, `LeadingLemmas` about where texts of varied paths lead, `FreeLemmas` about parts at varied paths and below,
-- `ObjectLemmas` about those on the way there, and the whole, and `IntegerLemmas` about objects with integers alone.
-- `LeftOutLemmas` is the law `no_sample_has_a_left_out_path`, `FromLemmas` the law `what_stands_there_is_a_candidate`.
pub mod AscendingLemmas
pub mod WithoutLemmas
pub mod LeafValueLemmas
pub mod VaryLemmas
pub mod JudgingLemmas
pub mod DocumentLemmas
pub mod FormLemmas
pub mod PathLemmas
pub mod RootLemmas
pub mod GoodLemmas
pub mod NumberLemmas
pub mod FitLemmas
pub mod ReachLemmas
pub mod EntryLemmas
pub mod SuggestionLemmas
pub mod VariedSampleLemmas
pub mod UncutLemmas
pub mod LeadingLemmas
pub mod FreeLemmas
pub mod ObjectLemmas
pub mod IntegerLemmas
pub mod LeftOutLemmas
pub mod FromLemmas

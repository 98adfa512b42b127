-- The lemmas of this crate.
-- Validity and pruning are functions by recursion on node and tree (Internal/ValidByLevel.antt, Internal/Pruning.antt). The
-- code's answers are equal to them, and they are proved to say what the definitions by paths say (ValidLemmas, PrunedPaths,
-- PrunedTrees). Defaulting is proved by paths at once (FilledWalks, FilledParts, Passing). All three go by one case distinction,
-- `pair`: a value beside its node is an object with fields, a map, a list, or has no parts with nodes (PartLemmas).
-- Faults: LevelLemmas, JoinedLemmas and FaultLemmas (by level, then all in order), ReportLemmas (how the walk reports them),
-- AscendingLemmas and RepetitionLemmas (items that repeat another), FaultlessLemmas (no fault), DroppedLemmas (members that
-- pruning drops, which strict faults have too).
-- Leaves: LeafLevelLemmas, LeafLemmas, ListingLemmas, and the laws of `leaves` in ApartLemmas and CoveredLemmas.
-- Stored: StoredLemmas (one level at a time), PrunedTest and FilledTest (whether a value changes), PrunedAgain and FilledAgain
-- (doing it twice changes nothing), OneTree (a value becomes one tree at most), BecomingLemmas (one step of a path at a time).
-- Defaults of a schema: DefaultLemmas, DefaultListLemmas. Violations with their reasons: ExplainedLemmas.
-- Small ones: TestLemmas, CountLemmas, FieldLemmas.
pub mod TestLemmas
pub mod CountLemmas
pub mod PartLemmas
pub mod ValidLemmas
pub mod DefaultLemmas
pub mod DefaultListLemmas
pub mod ExplainedLemmas
pub mod FieldLemmas
pub mod OneTree
pub mod BecomingLemmas
pub mod PrunedTrees
pub mod FilledAgain
pub mod PrunedAgain
pub mod PrunedTest
pub mod Passing
pub mod FilledParts
pub mod FilledWalks
pub mod PrunedPaths
pub mod ReportLemmas
pub mod JoinedLemmas
pub mod LevelLemmas
pub mod DroppedLemmas
pub mod FaultLemmas
pub mod FaultlessLemmas
pub mod AscendingLemmas
pub mod RepetitionLemmas
pub mod FilledTest
pub mod StoredLemmas
pub mod LeafLemmas
pub mod ListingLemmas
pub mod LeafLevelLemmas
pub mod CoveredLemmas
pub mod ApartLemmas

-- The lemmas of this crate. The code's answers are equal to functions by recursion on value and schema (Internal/MeetsByName.antt,
-- Internal/FaultsByLevel.antt). LookupLemmas: the same by the names of keywords. JoinedLemmas, MissingLemmas, FaultLemmas: what is found level
-- by level are all faults, in order. MeetingLaw: a value meets a schema exactly where it and its parts fail nothing. ValidLemmas: both.
-- PatternLemmas: the patterns that are found level by level (Internal/PatternsByLevel.antt) are all patterns of a schema, in order.
pub mod NameLemmas
pub mod CountLemmas
pub mod RepetitionLemmas
pub mod SlotLemmas
pub mod LookupLemmas
pub mod MapLemmas
pub mod JoinedLemmas
pub mod MissingLemmas
pub mod FaultLemmas
pub mod ReportLemmas
pub mod MeetingLaw
pub mod ValidLemmas
pub mod PatternLemmas

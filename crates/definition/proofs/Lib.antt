-- The lemmas of this crate. ReportLemmas: how a walk reports what it finds. FaultLemmas: what is found level by level (specs/Internal/ByLevel.antt)
-- are all faults, in order.
pub mod ReportLemmas
pub mod TextLemmas
pub mod FaultLemmas

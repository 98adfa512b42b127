-- The lemmas of this crate, by subject.
-- The calls of a `Plan` rest on its invariant, that each entry is right for the node of its number (`IsPlan`, `IsRight` in
-- specs/Internal/Plan.antt and Arena.antt). `PlanLemmas` draws from it what the calls answer, `WidthLemmas` how wide a plan is.
-- Parts: `PartLemmas` says what the parts of a site are, one level at a time, from the law `stored_by_parts` and from what is over the
-- pools at each step; `FillingLemmas` has the members of an object as the content of slots, `NameLemmas` the names in order.
-- Sizes and rows: `WordLemmas` has sets as the bits of words, `SizeLemmas` sets up to a limit, `SiteLemmas` the sizes of a site,
-- `RowLemmas` the tables of rows, `SeenLemmas` that the bits of the named fields are those of the members in the slots.
-- Lists: `ListLemmas` has the tables of lists in which items may be alike, `MoreLemmas` what can follow in a list. For sets and map
-- lists `KeyedLemmas` proves that lists without alike items have the sizes of lists of at most as many items as there are keys;
-- `SetLemmas` and `MapListLemmas` say what the keys are, `TupleLemmas` how many tuples there are, over `ApartLemmas` on lists in
-- which no element occurs twice; `CutLemmas` has the bounds with that many items.
-- Building: `ValueLemmas` has the values of the pools in order, `LeafLemmas` the candidates, `KindLemmas` those of scalars by their kind,
-- `EntryLemmas` the entries,
-- `ListEntryLemmas` how many tuples the keys of slots have, `SoundLemmas` what is known of the nodes of a schema, `BuildingLemmas`
-- what is added to a plan node by node.
-- The laws: `DeadEndLemmas` has `no_dead_end` at one site, `SoundPartLemmas` `sound_parts`, `PlanSites` both at all sites of a plan.
-- The pools document: `FirstBreak` has the first break of its form, `PoolLemmas` how long its lists are, `PoolPathLemmas` which of its
-- paths are good, `LookupLemmas` what a search by halves finds among its paths.
pub mod FixedLemmas
pub mod SizeLemmas
pub mod RowLemmas
pub mod ListLemmas
pub mod FillingLemmas
pub mod NameLemmas
pub mod SeenLemmas
pub mod PartLemmas
pub mod SiteLemmas
pub mod MoreLemmas
pub mod SoundLemmas
pub mod EntryLemmas
pub mod BuildingLemmas
pub mod PlanLemmas
pub mod WidthLemmas
pub mod ListEntryLemmas
pub mod CutLemmas
pub mod ValueLemmas
pub mod LeafLemmas
pub mod KindLemmas
pub mod WordLemmas
pub mod FirstBreak
pub mod PoolLemmas
pub mod LookupLemmas
pub mod PoolPathLemmas
pub mod ItemPathLemmas
pub mod ApartLemmas
pub mod TupleLemmas
pub mod LeastLemmas
pub mod OneValue
pub mod KeyedLemmas
pub mod SetLemmas
pub mod MapListLemmas
pub mod DeadEndLemmas
pub mod SoundPartLemmas
pub mod PlanSites
pub mod FrameLemmas
pub mod PlaceLemmas
pub mod WayLemmas
pub mod RenewLemmas
pub mod StepLemmas
pub mod ListAtLemmas

-- The lemmas of this crate, by subject.
-- Ways: `WayLemmas` says where paths lead from a node, `PathLemmas` which texts are those of the beginnings of a path.
-- Narrowed pools: `PoolLemmas` says what they ask for and fix and where they differ from the pools, `KeptLemmas` which fixed
-- values are left, `ThereLemmas` where the rest of
-- a path is there, `NarrowLemmas` what is over them, `SampleLemmas` that their samples are those in which the path is
-- there, `GoodLemmas` that their paths are good, `ValueLemmas` that candidates of scalars may be wanted.
-- Covers: `FirstLemmas` says that the first sample over the narrowed pools is the first one in which the path is there, `LineLemmas` what
-- a path adds, `KnownLemmas` what is known of paths in a cover under way, `CoveringLemmas` what a cover of the first paths is, `CoverLemmas`
-- is the law `lines_cover`.
pub mod WayLemmas
pub mod PathLemmas
pub mod PoolLemmas
pub mod KeptLemmas
pub mod ThereLemmas
pub mod NarrowLemmas
pub mod SampleLemmas
pub mod GoodLemmas
pub mod ValueLemmas
pub mod FirstLemmas
pub mod KnownLemmas
pub mod LineLemmas
pub mod CoverLemmas
pub mod CoveringLemmas

use Rattle.std.proofs.Common.{take}
use Rattle.std.specs.Prelude.{option_map}
use Rattle.std.specs.Ordering.{nat_cmp}
use Rattle.std.specs.Cmp.Lexicographic.{slice_cmp}
use Rattle.std.specs.BTreeMap.{get_by}
use Rattle.jtree.specs.View.{data_of}
use Rattle.schema.proofs.VersionLemmas.{IsIndex}
use Rattle.schema.proofs.versions.select.Given as goal

-- the versions so far by their names
abbrev pub invariant-loop-item : goal.invariant-loop-item
invariant-loop-item l = IsIndex (take l.item-index l.item-items) (λ s. option_map (λ t. data_of t.now) (get_by (λ k. slice_cmp nat_cmp s k.now) l.by_name))

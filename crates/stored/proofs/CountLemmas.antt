-- How many parts a value has.
use Rattle.std.specs.Prelude.{◌≡◌, List, [], ◌∷◌, length}
use Rattle.std.proofs.Common.{refl, arith}
use Rattle.jtree.specs.View.{items_of, members_of}
use Rattle.jtree.specs.declared.value.Tree.{Tree}
use Rattle.jtree.specs.declared.value.Member.{Member}
use Rattle.stored.specs.Objects.Fault.{items_count, members_count}

pub members_counted : (ms : List Member) → length ms ≡ members_count (members_of ms)
members_counted [] = refl
members_counted (m ∷ ms) = omega (arith, members_counted ms)

pub items_counted : (ts : List Tree) → length ts ≡ items_count (items_of ts)
items_counted [] = refl
items_counted (t ∷ ts) = omega (arith, items_counted ts)

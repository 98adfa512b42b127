-- How many parts a value has, and which is at an index.
use Rattle.std.specs.Prelude.{◌≡◌, ◌<◌, ℕ, zero, suc, List, [], ◌∷◌, length, Some}
use Rattle.std.proofs.Common.{refl, arith, get_or}
use Rattle.jtree.specs.Path.{item_at}
use Rattle.jtree.specs.View.{data_of, items_of, members_of}
use Rattle.jtree.specs.declared.value.Tree.{Tree}
use Rattle.jtree.specs.declared.value.Member.{Member}
use Rattle.judge.specs.Keywords.{items_count, members_count}

pub members_counted : (ms : List Member) → length ms ≡ members_count (members_of ms)
members_counted [] = refl
members_counted (m ∷ ms) = omega (arith, members_counted ms)

pub items_counted : (ts : List Tree) → length ts ≡ items_count (items_of ts)
items_counted [] = refl
items_counted (t ∷ ts) = omega (arith, items_counted ts)

pub item_there : (ts : List Tree) (i : ℕ) (d : Tree) → i < length ts → item_at i (items_of ts) ≡ Some (data_of (get_or ts i d))
item_there [] i d h = absurd (omega arith)
item_there (t ∷ ts) zero d h = refl
item_there (t ∷ ts) (suc i) d h = item_there ts i d (omega arith)

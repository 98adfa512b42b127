-- Sizes of lists and objects.
use Rattle.std.proofs.Common.{◌≡◌, suc, List, [], ◌∷◌, length, refl, ap}
use Rattle.jtree.specs.View.{items_of, members_of}
use Rattle.jtree.specs.declared.value.Tree.{Tree}
use Rattle.jtree.specs.declared.value.Member.{Member}
use Rattle.schema.specs.Document.Limits.{items_len, members_len}

pub items_size : (ts : List Tree) → length ts ≡ items_len (items_of ts)
items_size [] = refl
items_size (t ∷ ts) = ap suc (items_size ts)

pub members_size : (ms : List Member) → length ms ≡ members_len (members_of ms)
members_size [] = refl
members_size (m ∷ ms) = ap suc (members_size ms)

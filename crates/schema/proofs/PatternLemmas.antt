-- Objects with one member, and lists that begin with an item.
use Rattle.std.proofs.Common.{◌≡◌, ◌≤◌, ℕ, List, [], ◌∷◌, length, get_or, Some, sym, ap, ◌∙◌, subst, inl, inr, arith}
use Rattle.std.specs.Prelude.{codes}
use Rattle.std.specs.Str.{bytes_eq}
use Rattle.std.proofs.lemmas.Option.{same_Some}
use Rattle.jtree.specs.Data.{Data, list, object, Items, no_items, item, no_members, member}
use Rattle.jtree.specs.Path.{under}
use Rattle.jtree.specs.Internal.Lookups.{bool_cases, same_name, member_first}
use Rattle.jtree.specs.View.{data_of, items_of}
use Rattle.jtree.specs.declared.value.Tree.{Tree}
use Rattle.schema.specs.Document.Limits.{size, items_len}
use Rattle.schema.specs.Rules.Broken.{pattern, typed}
use Rattle.schema.proofs.PlaceLemmas.{items_size}

-- an object with one member is that member
pub single : (d : Data) (k : List ℕ) (e : Data) → size d ≡ 1 → under d k ≡ Some e → d ≡ object (member k e no_members)
single (object (member l x no_members)) k e one h = elim (bool_cases (bytes_eq k l)) [
  | inl t ↦
      let is : x ≡ e = same_Some x e (rw t at h) in
      let same : k ≡ l = same_name k l t in
      cc
  | inr f ↦ let none = rw f at h in cc
]
single (object (member l x (member m y ms))) k e one h = absurd (omega (arith, one))
single _ k e one h = cc

pub single_under : (d : Data) (k : List ℕ) (e : Data) → d ≡ object (member k e no_members) → under d k ≡ Some e
single_under d k e h = subst (λ x. under x k ≡ Some e) (sym h) (member_first k e no_members)

pub pattern_len : (ts : List Tree) → list (items_of ts) ≡ pattern → length ts ≡ 2
pattern_len ts h = let is : items_of ts ≡ item (typed (codes "integer")) (item (typed (codes "string")) no_items) = cc in items_size ts ∙ ap items_len is

pub first_item : (ts : List Tree) (t : Tree) → 1 ≤ length ts → t ≡ get_or ts 0 t → (rest : Items) × (items_of ts ≡ item (data_of t) rest)
first_item [] t h is = absurd (omega arith)
first_item (x ∷ ts) t h is = (items_of ts, ap (λ y. item (data_of y) (items_of ts)) (sym is))

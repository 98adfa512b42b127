-- Which values are divided, and what distinguishes their parts.
use Rattle.std.specs.Prelude.{◌≡◌, ◌==◌, ℕ, List, [], ◌∷◌, length, not}
use Rattle.std.specs.List.{filter}
use Rattle.std.proofs.Common.{refl, inl, inr, arith}
use Rattle.std.proofs.lemmas.Bool.Decides.{nat_tests}
use Rattle.jtree.specs.Data.{Members, no_members, member, IsNameBefore, AreMembers}
use Rattle.jtree.specs.View.{items_of, members_of}
use Rattle.jtree.specs.Internal.Lookups.{bool_cases, IsNameBefore-trans}
use Rattle.jtree.specs.declared.value.Tree.{Tree}
use Rattle.jtree.specs.declared.value.Member.{Member}
use Rattle.schema.specs.Document.Texts.{is_among}
use Rattle.schema.specs.declared.node.ListType.{ListType}
use Rattle.schema.specs.declared.node.ListType.TheVariants as list_type
use Rattle.schema.specs.declared.node.MapType.TheVariants as map_type
use Rattle.stored.specs.Objects.Leaves.{members_among}
use Rattle.stored.specs.Internal.LeavesByLevel.{divides_object, divides_list}

-- ---- what is empty

pub divides_counted : (ms : List Member) → not (length ms == 0) ≡ divides_object map_type.Granular (members_of ms)
divides_counted [] = refl
divides_counted (m ∷ ms) = grind (arith, nat_tests)

pub list_divides_counted : (type : ListType) (ts : List Tree) → (type ≡ list_type.Atomic → ⊥) → not (length ts == 0) ≡ divides_list type (items_of ts)
list_divides_counted list_type.Atomic ts h = absurd (h refl)
list_divides_counted (list_type.Set e) [] h = refl
list_divides_counted (list_type.Set e) (t ∷ ts) h = grind (arith, nat_tests)
list_divides_counted (list_type.Map e) [] h = refl
list_divides_counted (list_type.Map e) (t ∷ ts) h = grind (arith, nat_tests)

-- ---- the keys of an item

pub among_filtered : (names : List (List ℕ)) (ms : List Member) → members_of (filter (λ m. is_among m.name names) ms) ≡ members_among names (members_of ms)
among_filtered names [] = refl
among_filtered names (m ∷ ms) = elim (bool_cases (is_among m.name names)) [
  | inl e ↦ rw (e, among_filtered names ms) refl
  | inr e ↦ rw (e, among_filtered names ms) refl
]

before_among : (names : List (List ℕ)) (k : List ℕ) (ms : Members) → IsNameBefore k ms → AreMembers ms → IsNameBefore k (members_among names ms)
before_among names k no_members before m = tt
before_among names k (member l d ms) before m = elim (bool_cases (is_among l names)) [
  | inl e ↦ rw e before
  | inr e ↦ rw e (before_among names k ms (IsNameBefore-trans k l ms before m.1) m.2)
]

pub members_of_some : (names : List (List ℕ)) (ms : Members) → AreMembers ms → AreMembers (members_among names ms)
members_of_some names no_members m = tt
members_of_some names (member k d ms) m = elim (bool_cases (is_among k names)) [
  | inl e ↦ rw e (m.0, before_among names k ms m.1 m.2, members_of_some names ms m.2)
  | inr e ↦ rw e (members_of_some names ms m.2)
]

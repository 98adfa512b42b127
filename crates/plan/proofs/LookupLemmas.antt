-- A name found by halves among members in the order of their names is the one that is looked up.
use Rattle.std.proofs.Common.{◌≡◌, ℕ, zero, suc, List, [], ◌∷◌, ◌≤◌, ◌<◌, Some, None, true, length, get_or, refl, sym, ◌∙◌, subst, inl, inr, arith}
use Rattle.std.specs.Str.{bytes_eq}
use Rattle.std.specs.Ordering.{ordering_index}
use Rattle.std.specs.List.Sorted.{IsNonDecreasingBy, IsPartitionPoint}
use Rattle.std.specs.declared.cmp.Ordering.{Ordering}
use Rattle.std.specs.declared.cmp.Ordering.TheVariants.{Less, Equal, Greater}
use Rattle.std.proofs.lemmas.Bool.{cases_order}
use Rattle.std.proofs.lemmas.Cmp.{nat_list_cmp_total, tied_itself}
use Rattle.std.proofs.lemmas.Map.Lookups.{exact_bytes}
use Rattle.jtree.specs.Data.{IsNameBefore, AreMembers}
use Rattle.jtree.specs.Path.{member_at}
use Rattle.jtree.specs.Order.{text_cmp}
use Rattle.jtree.specs.View.{data_of, members_of}
use Rattle.jtree.specs.declared.value.Member.{Member}
use Rattle.jtree.specs.Internal.Lookups.{bool_cases, ordering_cases, same_name, own_name, member_later, member_tail, IsNameBefore-trans}

-- the name of a member, by the name that is looked up
abbrev pub by_name : List ℕ → Member → Ordering
by_name k m = text_cmp m.name k

-- ---- a member of that name

pub found_at : (k : List ℕ) (ms : List Member) (i : ℕ) (d : Member) → AreMembers (members_of ms) → i < length ms → by_name k (get_or ms i d) ≡ Equal → member_at k (members_of ms) ≡ Some (data_of (get_or ms i d).tree)
found_at k [] i d are within tie = absurd (omega arith)
found_at k (m ∷ ms) zero d are within tie = rw (subst (λ n. bytes_eq k n ≡ true) (sym (exact_bytes m.name k tie)) (own_name k)) refl
found_at k (m ∷ ms) (suc i) d are within tie = member_tail m.name (data_of m.tree) (members_of ms) k (data_of (get_or ms i d).tree) are (found_at k ms i d are.2 (omega arith) tie)

-- ---- no member of that name

pub absent : (k : List ℕ) (ms : List Member) → ((j : ℕ) (d : Member) → j < length ms → by_name k (get_or ms j d) ≡ Equal → ⊥) → member_at k (members_of ms) ≡ None
absent k [] none = refl
absent k (m ∷ ms) none = elim (bool_cases (bytes_eq k m.name)) as (λ _. member_at k (members_of (m ∷ ms)) ≡ None) [
  | inl same ↦ absurd (none 0 m (omega arith) (subst (λ n. text_cmp m.name n ≡ Equal) (sym (same_name k m.name same)) (tied_itself nat_list_cmp_total m.name)))
  | inr other ↦ member_later k m.name (data_of m.tree) (members_of ms) other ∙ absent k ms (λ j d within. none (suc j) d (omega arith))
]

-- ---- names rise

-- a name before all members is before each of them
before_place : (k : List ℕ) (ms : List Member) (j : ℕ) (d : Member) → IsNameBefore k (members_of ms) → AreMembers (members_of ms) → j < length ms → text_cmp k (get_or ms j d).name ≡ Less
before_place k [] j d before are within = absurd (omega arith)
before_place k (m ∷ ms) zero d before are within = before
before_place k (m ∷ ms) (suc j) d before are within = before_place k ms j d (IsNameBefore-trans k m.name (members_of ms) before are.1) are.2 (omega arith)

-- what is before a name is not after what that name is before
index_rises : (k l n : List ℕ) → text_cmp l n ≡ Less → ordering_index (text_cmp l k) ≤ ordering_index (text_cmp n k)
index_rises k l n before = elim (ordering_cases (text_cmp n k)) as (λ _. ordering_index (text_cmp l k) ≤ ordering_index (text_cmp n k)) [
  | inl less ↦ rw (nat_list_cmp_total.trans l n k before less, less) (omega arith)
  | inr (inl same) ↦ rw (subst (λ m. text_cmp l m ≡ Less) (exact_bytes n k same) before, same) (omega arith)
  | inr (inr greater) ↦ rw greater (most_index (text_cmp l k))
]
  where
    most_index : (o : Ordering) → ordering_index o ≤ 2
    most_index Less = omega arith
    most_index Equal = omega arith
    most_index Greater = omega arith

pub names_rise : (k : List ℕ) (ms : List Member) → AreMembers (members_of ms) → IsNonDecreasingBy (λ m. ordering_index (by_name k m)) ms
names_rise k [] are i j d le within = absurd (omega arith)
names_rise k (m ∷ ms) are zero zero d le within = omega arith
names_rise k (m ∷ ms) are zero (suc j) d le within = index_rises k m.name (get_or ms j d).name (before_place m.name ms j d are.1 are.2 (omega arith))
names_rise k (m ∷ ms) are (suc i) zero d le within = absurd (omega arith)
names_rise k (m ∷ ms) are (suc i) (suc j) d le within = names_rise k ms are.2 i j d (omega arith) (omega arith)

-- where the names part into smaller and greater ones, there is none
pub parted : (k : List ℕ) (ms : List Member) (i : ℕ) → IsPartitionPoint (λ m. by_name k m ≡ Less) (λ m. by_name k m ≡ Greater) ms i → member_at k (members_of ms) ≡ None
parted k ms i h = absent k ms (λ j d within tie. elim (cases_order j i) [
  | inl here ↦ let greater = h.1 j d (omega arith) within in cc
  | inr (inl before) ↦ let less = h.0 j d (omega arith) before in cc
  | inr (inr past) ↦ let greater = h.1 j d (omega arith) within in cc
])

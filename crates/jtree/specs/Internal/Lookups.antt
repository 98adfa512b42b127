-- The laws of lookups: by name in members that are in order, and of parts at joined paths.
use Rattle.std.proofs.Common.{◌≡◌, ◌⊎◌, ℕ, List, [], ◌∷◌, ◌++◌, Bool, true, false, Option, Some, None, refl, sym, ◌∙◌, subst, inl, inr}
use Rattle.std.specs.Str.{bytes_eq}
use Rattle.std.specs.declared.cmp.Ordering.TheVariants.{Less, Equal, Greater}
use Rattle.std.specs.declared.cmp.Ordering.{Ordering}
use Rattle.std.proofs.lemmas.Slice.Eq.{bytes_eq-Decides}
use Rattle.std.proofs.lemmas.Cmp.{nat_list_cmp_total, tied_itself}
use Rattle.std.proofs.lemmas.Option.{option_and_then_some, same_Some}
use Rattle.jtree.specs.Data.{Data, Members, no_members, member, IsNameBefore, AreMembers}
use Rattle.jtree.specs.Path.{Path, member_at, part_by, part_at}
use Rattle.jtree.specs.Order.{text_cmp}

pub bool_cases : (b : Bool) → (b ≡ true) ⊎ (b ≡ false)
bool_cases true = inl refl
bool_cases false = inr refl

-- an option is none, or some value
pub option_cases : {A : Type 0} (o : Option A) → (o ≡ None) ⊎ ((x : A) × (o ≡ Some x))
option_cases None = inl refl
option_cases (Some x) = inr (x, refl)

pub same_name : (k l : List ℕ) → bytes_eq k l ≡ true → k ≡ l
same_name k l e = (bytes_eq-Decides k l).0 e

pub own_name : (k : List ℕ) → bytes_eq k k ≡ true
own_name k = (bytes_eq-Decides k k).1 refl

-- no name is before itself
pub not_itself : (k l : List ℕ) → k ≡ l → text_cmp k l ≡ Less → ⊥
not_itself k l same before = let tied = tied_itself nat_list_cmp_total l in let less = subst (λ n. text_cmp n l ≡ Less) same before in cc

pub later_name : (k l : List ℕ) → text_cmp l k ≡ Less → bytes_eq k l ≡ false
later_name k l before = elim (bool_cases (bytes_eq k l)) [
  | inl t ↦ absurd (not_itself l k (sym (same_name k l t)) before)
  | inr f ↦ f
]

pub earlier_name : (k l : List ℕ) → text_cmp k l ≡ Less → bytes_eq k l ≡ false
earlier_name k l before = elim (bool_cases (bytes_eq k l)) [
  | inl t ↦ absurd (not_itself k l (same_name k l t) before)
  | inr f ↦ f
]

pub ordering_cases : (o : Ordering) → (o ≡ Less) ⊎ ((o ≡ Equal) ⊎ (o ≡ Greater))
ordering_cases Less = inl refl
ordering_cases Equal = inr (inl refl)
ordering_cases Greater = inr (inr refl)

pub past_name : (k l : List ℕ) → text_cmp k l ≡ Greater → bytes_eq k l ≡ false
past_name k l past = elim (bool_cases (bytes_eq k l)) [
  | inl t ↦ let tied = tied_itself nat_list_cmp_total l in let greater = subst (λ n. text_cmp n l ≡ Greater) (same_name k l t) past in cc
  | inr f ↦ f
]

pub member_first : (k : List ℕ) (d : Data) (ms : Members) → member_at k (member k d ms) ≡ Some d
member_first k d ms = rw own_name refl

pub member_later : (k l : List ℕ) (d : Data) (ms : Members) → bytes_eq k l ≡ false → member_at k (member l d ms) ≡ member_at k ms
member_later k l d ms other = rw other refl

pub IsNameBefore-trans : (k l : List ℕ) (ms : Members) → text_cmp k l ≡ Less → IsNameBefore l ms → IsNameBefore k ms
IsNameBefore-trans k l no_members kl h = tt
IsNameBefore-trans k l (member m d ms) kl h = nat_list_cmp_total.trans k l m kl h

-- a name before all members is before each of them
pub before_each : (k : List ℕ) (ms : Members) (l : List ℕ) (d : Data) → IsNameBefore k ms → AreMembers ms → member_at l ms ≡ Some d → text_cmp k l ≡ Less
before_each k no_members l d before object found = cc
before_each k (member m e ms) l d before object found = elim (bool_cases (bytes_eq l m)) [
  | inl t ↦ subst (λ n. text_cmp k n ≡ Less) (sym (same_name l m t)) before
  | inr f ↦ before_each k ms l d (IsNameBefore-trans k m ms before object.1) object.2 (sym (member_later l m e ms f) ∙ found)
]

-- and is not among their names
pub before_none : (k : List ℕ) (ms : Members) → IsNameBefore k ms → AreMembers ms → member_at k ms ≡ None
before_none k ms before object = elim (option_cases (member_at k ms)) [
  | inl none ↦ none
  | inr found ↦ absurd (not_itself k k refl (before_each k ms k found.0 before object found.1))
]

-- a lookup that finds a name among the later members finds it among all
pub member_tail : (l : List ℕ) (e : Data) (ms : Members) (k : List ℕ) (d : Data) → AreMembers (member l e ms) → member_at k ms ≡ Some d → member_at k (member l e ms) ≡ Some d
member_tail l e ms k d object found = member_later k l e ms (later_name k l (before_each l ms k d object.1 object.2 found)) ∙ found

-- the part at a path joined of two
pub part_at-append : (v : Data) (p q : Path) (w : Data) → part_at v p ≡ Some w → part_at v (p ++ q) ≡ part_at w q
part_at-append v [] q w e = rw (same_Some v w e) refl
part_at-append v (s ∷ p) q w e = option_and_then_some (λ d. part_at d p) (part_by v s) w e (λ d found rest. rw found (part_at-append d p q w rest))

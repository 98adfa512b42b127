-- The first break of a form is the first place in path order that breaks it.
use Rattle.std.proofs.Common.{◌≡◌, ◌≢◌, ◌<◌, ◌+◌, ℕ, zero, suc, List, [], ◌∷◌, true, false, Option, Some, None, refl, sym, ap, ◌∙◌, subst, inl, inr, arith}
use Rattle.std.specs.Prelude.{option_and_then}
use Rattle.std.specs.Str.{bytes_eq}
use Rattle.std.proofs.lemmas.Option.{same_Some}
use Rattle.std.specs.declared.cmp.Ordering.TheVariants.{Less}
use Rattle.jtree.specs.Data.{Data, list, object, Items, no_items, item, Members, no_members, member, IsTree, AreTrees, AreMembers}
use Rattle.jtree.specs.Path.{Step, name, index, Path, member_at, item_at, part_by, part_at}
use Rattle.jtree.specs.PathOrder.{path_cmp, IsFirst}
use Rattle.jtree.specs.Internal.PathLaws.{not_before_root, same_step, not_before_name, not_before_index}
use Rattle.jtree.specs.Internal.Lookups.{bool_cases, same_name, member_first, member_later, member_tail, option_cases, before_each}
use Rattle.schema.specs.Document.Forms.{Form, form_below, has_form, BreaksForm}
use Rattle.schema.specs.Internal.FormBreak.{below, or_else, parts_break, items_break, members_break, first_break}

-- the option is the first path at which something holds, or there is none
abbrev pub IsFound : (Path → Type 0) → Option Path → Type 0
IsFound Holds None = (p : Path) → Holds p → ⊥
IsFound Holds (Some p) = IsFirst Holds p

pub found_alike : (A B : Path → Type 0) (o : Option Path) → ((p : Path) → A p → B p) → ((p : Path) → B p → A p) → IsFound A o → IsFound B o
found_alike A B None to from h = λ p b. h p (from p b)
found_alike A B (Some p) to from h = record { here = to p h.here; none_before = λ e b. h.none_before e (from e b) }

-- ---- a break below a step

break_below : (f : Form) (d : Data) (s : Step) (path : Path) → BreaksForm f d (s ∷ path) → (e : Data) × (part_by d s ≡ Some e) × BreaksForm (form_below f s) e path
break_below f d s path b = elim (option_cases (part_by d s)) [
  | inl none ↦
      let at : option_and_then (λ e. part_at e path) (part_by d s) ≡ Some b.0 = b.1 in
      let contrary = rw none at at in
      cc
  | inr some ↦
      let at : option_and_then (λ e. part_at e path) (part_by d s) ≡ Some b.0 = b.1 in
      (some.0, some.1, (b.0, rw some.1 at at, b.2))
]

break_above : (f : Form) (d : Data) (s : Step) (path : Path) (e : Data) → part_by d s ≡ Some e → BreaksForm (form_below f s) e path → BreaksForm f d (s ∷ path)
break_above f d s path e some b =
    let at : option_and_then (λ x. part_at x path) (part_by d s) ≡ Some b.0 = rw some b.1 in
    (b.0, at, b.2)

-- ---- breaks among members and items

pub record MemberBreaks (f : Form) (ms : Members) (path : Path) : Type 0 where
  pub key : List ℕ
  pub rest : Path
  pub value : Data
  pub path_is : path ≡ name key ∷ rest
  pub at : member_at key ms ≡ Some value
  pub breaks : BreaksForm (form_below f (name key)) value rest

-- items from a place on
pub record ItemBreaks (f : Form) (i : ℕ) (ds : Items) (path : Path) : Type 0 where
  pub offset : ℕ
  pub position : ℕ
  pub index_is : position ≡ i + offset
  pub rest : Path
  pub value : Data
  pub path_is : path ≡ index position ∷ rest
  pub at : item_at offset ds ≡ Some value
  pub breaks : BreaksForm (form_below f (index position)) value rest

member_up : (f : Form) (k : List ℕ) (d : Data) (ms : Members) → AreMembers (member k d ms) → (p : Path) → MemberBreaks f ms p → MemberBreaks f (member k d ms) p
member_up f k d ms o p b = record { key = b.key; rest = b.rest; value = b.value; path_is = b.path_is; at = member_tail k d ms b.key b.value o b.at; breaks = b.breaks }

-- where the first member is the one that breaks the form, its value does
first_breaks : (f : Form) (k : List ℕ) (d : Data) (ms : Members) (p : Path) (b : MemberBreaks f (member k d ms) p) → bytes_eq b.key k ≡ true → BreaksForm (form_below f (name k)) d b.rest
first_breaks f k d ms p b t =
    let at = rw t at b.at in
    let value : d ≡ b.value = same_Some d b.value at in
    subst (λ n. BreaksForm (form_below f (name n)) d b.rest) (same_name b.key k t) (subst (λ v. BreaksForm (form_below f (name b.key)) v b.rest) (sym value) b.breaks)

member_down : (f : Form) (k : List ℕ) (d : Data) (ms : Members) → ((p : Path) → BreaksForm (form_below f (name k)) d p → ⊥)
    → (p : Path) → MemberBreaks f (member k d ms) p → MemberBreaks f ms p
member_down f k d ms none p b = elim (bool_cases (bytes_eq b.key k)) [
  | inl t ↦ absurd (none b.rest (first_breaks f k d ms p b t))
  | inr other ↦ record { key = b.key; rest = b.rest; value = b.value; path_is = b.path_is; at = sym (member_later b.key k d ms other) ∙ b.at; breaks = b.breaks }
]

member_here : (f : Form) (k : List ℕ) (d : Data) (ms : Members) (p : Path) → AreMembers (member k d ms) → IsFirst (BreaksForm (form_below f (name k)) d) p
    → IsFirst (MemberBreaks f (member k d ms)) (name k ∷ p)
member_here f k d ms p o first = record {
  here = record { key = k; rest = p; value = d; path_is = refl; at = member_first k d ms; breaks = first.here };
  none_before = λ e b. elim (bool_cases (bytes_eq b.key k)) [
    | inl t ↦
        let path : e ≡ name k ∷ b.rest = b.path_is ∙ ap (λ n. name n ∷ b.rest) (same_name b.key k t) in
        subst (λ x. path_cmp x (name k ∷ p) ≢ Less) (sym path) (subst (λ order. order ≢ Less) (sym (same_step (name k) b.rest p)) (first.none_before b.rest (first_breaks f k d ms e b t)))
    | inr other ↦
        let at = sym (member_later b.key k d ms other) ∙ b.at in
        let before = before_each k ms b.key b.value o.1 o.2 at in
        subst (λ x. path_cmp x (name k ∷ p) ≢ Less) (sym b.path_is) (not_before_name k b.key b.rest p before)
  ];
}

member_step : (f : Form) (k : List ℕ) (d : Data) (ms : Members) (o : Option Path) (rest : Option Path) → AreMembers (member k d ms)
    → IsFound (BreaksForm (form_below f (name k)) d) o → IsFound (MemberBreaks f ms) rest
    → IsFound (MemberBreaks f (member k d ms)) (or_else (below (name k) o) rest)
member_step f k d ms None rest o none h = found_alike (MemberBreaks f ms) (MemberBreaks f (member k d ms)) rest (member_up f k d ms o) (member_down f k d ms none) h
member_step f k d ms (Some p) rest o first h = member_here f k d ms p o first

item_up : (f : Form) (i : ℕ) (d : Data) (ds : Items) (p : Path) → ItemBreaks f (suc i) ds p → ItemBreaks f i (item d ds) p
item_up f i d ds p b = record { offset = suc b.offset; position = b.position; index_is = omega (arith, b.index_is); rest = b.rest; value = b.value; path_is = b.path_is; at = b.at; breaks = b.breaks }

item_down : (f : Form) (i : ℕ) (d : Data) (ds : Items) → ((p : Path) → BreaksForm (form_below f (index i)) d p → ⊥) → (p : Path)
    → (offset position : ℕ) → position ≡ i + offset → (rest : Path) (value : Data) → p ≡ index position ∷ rest → item_at offset (item d ds) ≡ Some value
    → BreaksForm (form_below f (index position)) value rest → ItemBreaks f (suc i) ds p
item_down f i d ds none p zero position is rest value path at breaks =
    let same : position ≡ i = omega (arith, is) in
    let breaks' : BreaksForm (form_below f (index i)) d rest =
    subst (λ n. BreaksForm (form_below f (index n)) d rest) same (subst (λ v. BreaksForm (form_below f (index position)) v rest) (sym (same_Some d value at)) breaks) in
    absurd (none rest breaks')
item_down f i d ds none p (suc j) position is rest value path at breaks =
    record { offset = j; position = position; index_is = omega (arith, is); rest = rest; value = value; path_is = path; at = at; breaks = breaks }

item_later : (f : Form) (i : ℕ) (d : Data) (ds : Items) (q : Path) → IsFirst (BreaksForm (form_below f (index i)) d) q → (p : Path)
    → (offset position : ℕ) → position ≡ i + offset → (rest : Path) (value : Data) → p ≡ index position ∷ rest → item_at offset (item d ds) ≡ Some value
    → BreaksForm (form_below f (index position)) value rest → path_cmp p (index i ∷ q) ≢ Less
item_later f i d ds q first p zero position is rest value path at breaks =
    let same : position ≡ i = omega (arith, is) in
    let breaks' : BreaksForm (form_below f (index i)) d rest =
    subst (λ n. BreaksForm (form_below f (index n)) d rest) same (subst (λ v. BreaksForm (form_below f (index position)) v rest) (sym (same_Some d value at)) breaks) in
    let here : p ≡ index i ∷ rest = path ∙ ap (λ n. index n ∷ rest) same in
    subst (λ x. path_cmp x (index i ∷ q) ≢ Less) (sym here) (subst (λ order. order ≢ Less) (sym (same_step (index i) rest q)) (first.none_before rest breaks'))
item_later f i d ds q first p (suc j) position is rest value path at breaks =
    let past : i < position = omega (arith, is) in
    subst (λ x. path_cmp x (index i ∷ q) ≢ Less) (sym path) (not_before_index i position rest q past)

item_step : (f : Form) (i : ℕ) (d : Data) (ds : Items) (o : Option Path) (rest : Option Path)
    → IsFound (BreaksForm (form_below f (index i)) d) o → IsFound (ItemBreaks f (suc i) ds) rest
    → IsFound (ItemBreaks f i (item d ds)) (or_else (below (index i) o) rest)
item_step f i d ds None rest none h = found_alike (ItemBreaks f (suc i) ds) (ItemBreaks f i (item d ds)) rest (item_up f i d ds)
    (λ p b. item_down f i d ds none p b.offset b.position b.index_is b.rest b.value b.path_is b.at b.breaks) h
item_step f i d ds (Some p) rest first h = record {
  here = record { offset = 0; position = i; index_is = omega arith; rest = p; value = d; path_is = refl; at = refl; breaks = first.here };
  none_before = λ e b. item_later f i d ds p first e b.offset b.position b.index_is b.rest b.value b.path_is b.at b.breaks;
}

-- ---- the whole

-- a scalar that has the form has no break
no_parts : (f : Form) (d : Data) → ((s : Step) → part_by d s ≡ None) → has_form f d ≡ true → (p : Path) → BreaksForm f d p → ⊥
no_parts f d none form [] b =
    let same = same_Some d b.0 b.1 in
    let contrary : has_form f d ≡ false = subst (λ v. has_form f v ≡ false) (sym same) b.2 in
    cc
no_parts f d none form (s ∷ p) b = let part = break_below f d s p b in let contrary = none s in cc

root_form : (f : Form) (d : Data) → has_form f d ≡ true → BreaksForm f d [] → ⊥
root_form f d form b =
    let same = same_Some d b.0 b.1 in
    let contrary : has_form f d ≡ false = subst (λ v. has_form f v ≡ false) (sym same) b.2 in
    cc

object_up : (f : Form) (ms : Members) (p : Path) → MemberBreaks f ms p → BreaksForm f (object ms) p
object_up f ms p b = subst (BreaksForm f (object ms)) (sym b.path_is) (break_above f (object ms) (name b.key) b.rest b.value b.at b.breaks)

object_down : (f : Form) (ms : Members) → has_form f (object ms) ≡ true → (p : Path) → BreaksForm f (object ms) p → MemberBreaks f ms p
object_down f ms form [] b = absurd (root_form f (object ms) form b)
object_down f ms form (name k ∷ p) b =
    let part = break_below f (object ms) (name k) p b in
    record { key = k; rest = p; value = part.0; path_is = refl; at = part.1; breaks = part.2 }
object_down f ms form (index i ∷ p) b = let part = break_below f (object ms) (index i) p b in cc

list_up : (f : Form) (ds : Items) (p : Path) → ItemBreaks f 0 ds p → BreaksForm f (list ds) p
list_up f ds p b =
    let same : b.position ≡ b.offset = omega (arith, b.index_is) in
    let at : item_at b.position ds ≡ Some b.value = subst (λ n. item_at n ds ≡ Some b.value) (sym same) b.at in
    subst (BreaksForm f (list ds)) (sym b.path_is) (break_above f (list ds) (index b.position) b.rest b.value at b.breaks)

list_down : (f : Form) (ds : Items) → has_form f (list ds) ≡ true → (p : Path) → BreaksForm f (list ds) p → ItemBreaks f 0 ds p
list_down f ds form [] b = absurd (root_form f (list ds) form b)
list_down f ds form (name k ∷ p) b = let part = break_below f (list ds) (name k) p b in cc
list_down f ds form (index i ∷ p) b =
    let part = break_below f (list ds) (index i) p b in
    record { offset = i; position = i; index_is = omega arith; rest = p; value = part.0; path_is = refl; at = part.1; breaks = part.2 }

from_parts : (f : Form) (d : Data) → (has_form f d ≡ true → IsFound (BreaksForm f d) (parts_break f d)) → IsFound (BreaksForm f d) (first_break f d)
from_parts f d h = elim (bool_cases (has_form f d)) [
  | inl t ↦ let first : first_break f d ≡ parts_break f d = rw t refl in subst (IsFound (BreaksForm f d)) (sym first) (h t)
  | inr other ↦
      let first : first_break f d ≡ Some [] = rw other refl in
      subst (IsFound (BreaksForm f d)) (sym first) (record { here = (d, refl, other); none_before = λ e b. not_before_root e })
]

mutual
  parts_found : (f : Form) (d : Data) → IsTree d → has_form f d ≡ true → IsFound (BreaksForm f d) (parts_break f d)
  parts_found f (list ds) o form = found_alike (ItemBreaks f 0 ds) (BreaksForm f (list ds)) (items_break f 0 ds) (list_up f ds) (list_down f ds form) (items_found f 0 ds o)
  parts_found f (object ms) o form = found_alike (MemberBreaks f ms) (BreaksForm f (object ms)) (members_break f ms) (object_up f ms) (object_down f ms form) (members_found f ms o)
  parts_found f d o form = no_parts f d (λ s. refl) form

  items_found : (f : Form) (i : ℕ) (ds : Items) → AreTrees ds → IsFound (ItemBreaks f i ds) (items_break f i ds)
  items_found f i no_items o = λ p b. cc
  items_found f i (item d ds) o =
      item_step f i d ds (first_break (form_below f (index i)) d) (items_break f (suc i) ds)
      (from_parts (form_below f (index i)) d (λ h. parts_found (form_below f (index i)) d o.0 h)) (items_found f (suc i) ds o.1)

  members_found : (f : Form) (ms : Members) → AreMembers ms → IsFound (MemberBreaks f ms) (members_break f ms)
  members_found f no_members o = λ p b. cc
  members_found f (member k d ms) o =
      member_step f k d ms (first_break (form_below f (name k)) d) (members_break f ms) o
      (from_parts (form_below f (name k)) d (λ h. parts_found (form_below f (name k)) d o.0 h)) (members_found f ms o.2)

pub first_found : (f : Form) (d : Data) → IsTree d → IsFound (BreaksForm f d) (first_break f d)
first_found f d o = from_parts f d (λ h. parts_found f d o h)

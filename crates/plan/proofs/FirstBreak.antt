-- The first break that is found is the first place in path order that breaks the form.
use Rattle.std.proofs.Common.{◌≡◌, ◌≢◌, ◌⊎◌, ◌≤◌, ℕ, zero, suc, List, [], ◌∷◌, Bool, true, false, Option, Some, None, refl, sym, ap, ◌∙◌, subst, inl, inr, arith}
use Rattle.std.specs.Prelude.{option_map, if◌then◌else◌}
use Rattle.std.specs.Str.{bytes_eq}
use Rattle.std.proofs.lemmas.Bool.{cases_lt}
use Rattle.std.proofs.lemmas.Option.{same_Some}
use Rattle.std.specs.declared.cmp.Ordering.TheVariants.{Less}
use Rattle.jtree.specs.Data.{Data, list, object, Items, no_items, item, Members, no_members, member, IsTree, IsNameBefore, AreMembers}
use Rattle.jtree.specs.Path.{name, index, Path, item_at, member_at}
use Rattle.jtree.specs.PathOrder.{path_cmp, IsFirst}
use Rattle.jtree.specs.Pointer.{pointer}
use Rattle.jtree.specs.Internal.PathLaws.{not_before_root, same_step, not_before_name, not_before_index}
use Rattle.jtree.specs.Internal.Lookups.{bool_cases, same_name, member_first, member_later, member_tail, before_each}
use Rattle.jtree.specs.Kind.{is_list}
use Rattle.schema.specs.declared.profile.Profile.{Profile}
use Rattle.plan.specs.Pools.Document.{PoolForm, entries, lists, unknown, pool_form, BreaksPool, other_name, no_list, other_entry, no_lists, no_list_at, BreaksForm, no_object, in_member}
use Rattle.plan.specs.Internal.PoolBreak.{other_item, below_name, list_break, pool_break, member_break, or_else, members_break, first_break}

-- the option is the first path at which something holds, or there is none
abbrev pub IsFound : (Path → Type 0) → Option Path → Type 0
IsFound Holds None = (p : Path) → Holds p → ⊥
IsFound Holds (Some p) = IsFirst Holds p

found_by : (A B : Path → Type 0) → ((p : Path) → A p → B p) → ((p : Path) → B p → A p) → (o : Option Path) → IsFound A o → IsFound B o
found_by A B to from None none = λ p b. none p (from p b)
found_by A B to from (Some p) first = record { here = to p first.here; none_before = λ e b. first.none_before e (from e b) }

root_found : (Holds : Path → Type 0) → Holds [] → IsFound Holds (Some [])
root_found Holds here = record { here = here; none_before = λ e _. not_before_root e }

-- ---- the entries of a pool

record IsOther (test : Data → Bool) (ds : Items) (i : ℕ) : Type 0 where
  pub value : Data
  pub at : item_at i ds ≡ Some value
  pub fails : test value ≡ false

abbrev IsLeast : (ℕ → Type 0) → Option ℕ → Type 0
IsLeast Holds None = (i : ℕ) → Holds i → ⊥
IsLeast Holds (Some n) = Holds n × ((i : ℕ) → Holds i → n ≤ i)

later_item : (test : Data → Bool) (d : Data) (ds : Items) → test d ≡ true → (i : ℕ) → IsOther test (item d ds) i → (j : ℕ) × (i ≡ suc j) × IsOther test ds j
later_item test d ds passes zero o = let same = same_Some d o.value o.at in let fails = o.fails in cc
later_item test d ds passes (suc j) o = (j, refl, record { value = o.value; at = o.at; fails = o.fails })

item_step : (test : Data → Bool) (d : Data) (ds : Items) (b : Bool) (o : Option ℕ) → test d ≡ b → IsLeast (IsOther test ds) o
    → IsLeast (IsOther test (item d ds)) (if b then option_map suc o else Some 0)
item_step test d ds false o fails h = (record { value = d; at = refl; fails = fails }, λ i _. omega arith)
item_step test d ds true None passes none = λ i o. let rest = later_item test d ds passes i o in none rest.0 rest.2
item_step test d ds true (Some n) passes h =
    (record { value = h.0.value; at = h.0.at; fails = h.0.fails }, λ i o. let rest = later_item test d ds passes i o in omega (arith, rest.1, h.1 rest.0 rest.2))

other_item_least : (test : Data → Bool) (ds : Items) → IsLeast (IsOther test ds) (other_item test ds)
other_item_least test no_items = λ i o. let at = o.at in cc
other_item_least test (item d ds) = item_step test d ds (test d) (other_item test ds) refl (other_item_least test ds)

-- ---- a pool

other_at : (test : Data → Bool) (ds : Items) (e : Path) → BreaksPool (entries test) (list ds) e → (i : ℕ) × (e ≡ index i ∷ []) × IsOther test ds i
other_at test ds e (no_list _ _ h) = cc
other_at test ds e (other_entry _ _ i v at fails) = (i, refl, record { value = v; at = at; fails = fails })

not_before_entry : (n i : ℕ) → n ≤ i → path_cmp (index i ∷ []) (index n ∷ []) ≢ Less
not_before_entry n i least = elim (cases_lt n i) [
  | inl before ↦ not_before_index n i [] [] before
  | inr after ↦ let same : i ≡ n = omega arith in λ less. let equal = same_step (index n) [] [] in cc
]

items_found : (test : Data → Bool) (ds : Items) (o : Option ℕ) → IsLeast (IsOther test ds) o → IsFound (BreaksPool (entries test) (list ds)) (option_map (λ i. index i ∷ []) o)
items_found test ds None none = λ e b. let other = other_at test ds e b in none other.0 other.2
items_found test ds (Some n) least = record {
  here = other_entry test ds n least.0.value least.0.at least.0.fails;
  none_before = λ e b.
      let other = other_at test ds e b in
      subst (λ x. path_cmp x (index n ∷ []) ≢ Less) (sym other.1) (not_before_entry n other.0 (least.1 other.0 other.2));
}

-- ---- among members

-- a path below the name of a member, at which something holds of the member
record IsBelow (Holds : List ℕ → Data → Path → Type 0) (ms : Members) (e : Path) : Type 0 where
  pub key : List ℕ
  pub value : Data
  pub rest : Path
  pub is : e ≡ name key ∷ rest
  pub at : member_at key ms ≡ Some value
  pub holds : Holds key value rest

-- below the first member, or below a later one
parted : (Holds : List ℕ → Data → Path → Type 0) (k : List ℕ) (d : Data) (ms : Members) (e : Path) → IsBelow Holds (member k d ms) e
    → ((path : Path) × (e ≡ name k ∷ path) × Holds k d path) ⊎ IsBelow Holds ms e
parted Holds k d ms e b = elim (bool_cases (bytes_eq b.key k)) [
  | inl t ↦
      let same : b.key ≡ k = same_name b.key k t in
      let value : b.value ≡ d = sym (same_Some d b.value (rw t at b.at)) in
      inl (b.rest, b.is ∙ ap (λ n. name n ∷ b.rest) same, subst (λ n. Holds n d b.rest) same (subst (λ x. Holds b.key x b.rest) value b.holds))
  | inr f ↦ inr (record { key = b.key; value = b.value; rest = b.rest; is = b.is; at = sym (member_later b.key k d ms f) ∙ b.at; holds = b.holds })
]

raised : (Holds : List ℕ → Data → Path → Type 0) (k : List ℕ) (d : Data) (ms : Members) → AreMembers (member k d ms) → (e : Path) → IsBelow Holds ms e
    → IsBelow Holds (member k d ms) e
raised Holds k d ms o e b = record { key = b.key; value = b.value; rest = b.rest; is = b.is; at = member_tail k d ms b.key b.value o b.at; holds = b.holds }

not_before_member : (Holds : List ℕ → Data → Path → Type 0) (k : List ℕ) (ms : Members) (q : Path) → IsNameBefore k ms → AreMembers ms → (e : Path)
    → IsBelow Holds ms e → path_cmp e (name k ∷ q) ≢ Less
not_before_member Holds k ms q before o e b =
    subst (λ x. path_cmp x (name k ∷ q) ≢ Less) (sym b.is) (not_before_name k b.key b.rest q (before_each k ms b.key b.value before o b.at))

member_step : (Holds : List ℕ → Data → Path → Type 0) (k : List ℕ) (d : Data) (ms : Members) (o rest : Option Path) → AreMembers (member k d ms)
    → IsFound (Holds k d) o → IsFound (IsBelow Holds ms) rest → IsFound (IsBelow Holds (member k d ms)) (or_else (below_name k o) rest)
member_step Holds k d ms None None m none h = λ e b. elim (parted Holds k d ms e b) [
  | inl here ↦ none here.0 here.2
  | inr later ↦ h e later
]
member_step Holds k d ms None (Some p) m none h = record {
  here = raised Holds k d ms m p h.here;
  none_before = λ e b. elim (parted Holds k d ms e b) [
    | inl here ↦ absurd (none here.0 here.2)
    | inr later ↦ h.none_before e later
  ];
}
member_step Holds k d ms (Some q) rest m first h = record {
  here = record { key = k; value = d; rest = q; is = refl; at = member_first k d ms; holds = first.here };
  none_before = λ e b. elim (parted Holds k d ms e b) [
    | inl here ↦
        let below : path_cmp (name k ∷ here.0) (name k ∷ q) ≢ Less = subst (λ order. order ≢ Less) (sym (same_step (name k) here.0 q)) (first.none_before here.0 here.2) in
        subst (λ x. path_cmp x (name k ∷ q) ≢ Less) (sym here.1) below
    | inr later ↦ not_before_member Holds k ms q m.1 m.2 e later
  ];
}

members_found : (Holds : List ℕ → Data → Path → Type 0) (break : List ℕ → Data → Option Path) → ((k : List ℕ) (d : Data) → IsTree d → IsFound (Holds k d) (break k d)) → (ms : Members) → AreMembers ms
    → IsFound (IsBelow Holds ms) (members_break (λ k d. below_name k (break k d)) ms)
members_found Holds break each no_members o = λ e b. let at = b.at in cc
members_found Holds break each (member k d ms) o = member_step Holds k d ms (break k d) (members_break (λ l x. below_name l (break l x)) ms) o (each k d o.0) (members_found Holds break each ms o.2)

-- ---- the lists of paths

abbrev IsNoList : List ℕ → Data → Path → Type 0
IsNoList k d path = (path ≡ []) × (is_list d ≡ false)

no_list_found : (k : List ℕ) (d : Data) (b : Bool) → is_list d ≡ b → IsFound (IsNoList k d) (if b then None else Some [])
no_list_found k d true is = λ e no_list. let fails = no_list.1 in cc
no_list_found k d false is = root_found (IsNoList k d) (refl, is)

lists_broken : (ms : Members) (e : Path) → IsBelow IsNoList ms e → BreaksPool lists (object ms) e
lists_broken ms e b = subst (BreaksPool lists (object ms)) (sym (b.is ∙ ap (λ path. name b.key ∷ path) b.holds.0)) (no_list_at ms b.key b.value b.at b.holds.1)

lists_below : (ms : Members) (e : Path) → BreaksPool lists (object ms) e → IsBelow IsNoList ms e
lists_below ms e (no_lists _ h) = cc
lists_below ms e (no_list_at _ k v at fails) = record { key = k; value = v; rest = []; is = refl; at = at; holds = (refl, fails) }

lists_found : (ms : Members) → AreMembers ms → IsFound (BreaksPool lists (object ms)) (members_break list_break ms)
lists_found ms o = found_by (IsBelow IsNoList ms) (BreaksPool lists (object ms)) (lists_broken ms) (lists_below ms) (members_break list_break ms)
    (members_found IsNoList (λ k d. if is_list d then None else Some []) (λ k d _. no_list_found k d (is_list d) refl) ms o)

-- ---- the document

pool_found : (form : PoolForm) (d : Data) → IsTree d → IsFound (BreaksPool form d) (pool_break form d)
pool_found (entries test) (list ds) o = items_found test ds (other_item test ds) (other_item_least test ds)
pool_found (entries test) d o = root_found (BreaksPool (entries test) d) (no_list test d refl)
pool_found lists (object ms) o = lists_found ms o
pool_found lists d o = root_found (BreaksPool lists d) (no_lists d refl)
pool_found unknown d o = root_found (BreaksPool unknown d) (other_name d)

abbrev IsBroken : Profile → List ℕ → Data → Path → Type 0
IsBroken profile k d path = BreaksPool (pool_form profile k) d path

form_broken : (profile : Profile) (ms : Members) (e : Path) → IsBelow (IsBroken profile) ms e → BreaksForm profile (object ms) e
form_broken profile ms e b = subst (BreaksForm profile (object ms)) (sym b.is) (in_member ms b.key b.value b.rest b.at b.holds)

form_below : (profile : Profile) (ms : Members) (e : Path) → BreaksForm profile (object ms) e → IsBelow (IsBroken profile) ms e
form_below profile ms e (no_object _ h) = cc
form_below profile ms e (in_member _ k v path at b) = record { key = k; value = v; rest = path; is = refl; at = at; holds = b }

first_found : (profile : Profile) (d : Data) → IsTree d → IsFound (BreaksForm profile d) (first_break profile d)
first_found profile (object ms) o = found_by (IsBelow (IsBroken profile) ms) (BreaksForm profile (object ms)) (form_broken profile ms) (form_below profile ms) (members_break (member_break profile) ms)
    (members_found (IsBroken profile) (λ k d. pool_break (pool_form profile k) d) (λ k d t. pool_found (pool_form profile k) d t) ms o)
first_found profile d o = root_found (BreaksForm profile d) (no_object d refl)

-- ---- and its pointer

abbrev pub IsPointed : (Path → Type 0) → Option (List ℕ) → Type 0
IsPointed Holds None = (p : Path) → Holds p → ⊥
IsPointed Holds (Some s) = (path : Path) × (s ≡ pointer path) × IsFirst Holds path

pointed : (Holds : Path → Type 0) (o : Option Path) → IsFound Holds o → IsPointed Holds (option_map pointer o)
pointed Holds None none = none
pointed Holds (Some p) first = (p, refl, first)

pub first_pointed : (profile : Profile) (d : Data) → IsTree d → IsPointed (BreaksForm profile d) (option_map pointer (first_break profile d))
first_pointed profile d o = pointed (BreaksForm profile d) (first_break profile d) (first_found profile d o)

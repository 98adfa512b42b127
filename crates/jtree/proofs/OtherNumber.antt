-- The first number of a JSON value, in path order, that is not an integer of 64 bits.
use Rattle.std.proofs.Common.{◌≡◌, ◌≢◌, ◌<◌, ℕ, zero, suc, take, List, [], ◌∷◌, ◌++◌, Option, Some, None, option_map, option_and_then, string_bytes, string_cmp, nat_cmp, Less, true, is_eq, refl, sym, ap, ◌∙◌, subst, inl, inr, arith}
use Rattle.std.specs.Prelude.{is_some}
use Rattle.std.proofs.lemmas.Bool.{cases_lt}
use Rattle.std.proofs.lemmas.Cmp.{nat_list_cmp_total}
use Rattle.std.proofs.lemmas.Map.Text.{is_eq-slice_cmp}
use Rattle.std.proofs.lemmas.Option.{same_Some}
use Rattle.std.specs.Cmp.Lexicographic.{slice_cmp}
use Rattle.std.specs.List.{AllByRecursion}
use Rattle.std.specs.List.Sorted.{IsStrictlySortedBy}
use Rattle.std.specs.Map.{keys_of}
use Rattle.std.specs.Ordering.{match_ordering, ordering_reverse}
use Rattle.serde_json.specs.Data as json
use Rattle.serde_json.specs.Find.{get_item, get_member, as_i64}
use Rattle.serde_json.specs.View.{view, items_view, members_view}
use Rattle.serde_json.specs.declared.value.Value.{Value}
use Rattle.serde_json.proofs.Views.{Entry, member_here}
use Rattle.jtree.specs.Data.{integer, list, object}
use Rattle.jtree.specs.Order.{text_cmp}
use Rattle.jtree.specs.Path.{Path, name, index}
use Rattle.jtree.specs.PathOrder.{path_cmp, IsFirst}
use Rattle.jtree.specs.Reads.{tree_of, items_tree, members_tree}
use Rattle.jtree.specs.Refusal.{value_at, IsOtherNumberAt}
use Rattle.jtree.specs.Internal.Lookups.{option_cases, ordering_cases, same_name}
use Rattle.jtree.specs.Internal.PathLaws.{not_before_root, same_step, not_before_index}
use Rattle.jtree.proofs.Reading.{items_read, members_read, joined_items, joined_items-none, joined_members, joined_members-none}

-- the path leads from there to such a number
abbrev Leads : Option json.Data → Path → Type 0
Leads o path = (n : json.Num) × (option_and_then (λ w. value_at w path) o ≡ Some (json.number n)) × (as_i64 n ≡ None)

-- ---- a value with such a number is no tree

mutual
  pub no_tree : (v : json.Data) (p : Path) → IsOtherNumberAt v p → tree_of v ≡ None
  no_tree v [] h = rw (same_Some v (json.number h.0) h.1) (ap (option_map integer) h.2)
  no_tree (json.array ds) (index i ∷ p) h = ap (option_map list) (item_no_tree ds i p h)
  no_tree (json.object ms) (name k ∷ p) h = ap (option_map object) (member_no_tree ms k p h)
  no_tree v (name k ∷ p) h = let none = h.1 in cc
  no_tree v (index i ∷ p) h = let none = h.1 in cc

  item_no_tree : (ds : json.Items) (i : ℕ) (p : Path) → Leads (get_item i ds) p → items_tree ds ≡ None
  item_no_tree json.no_items i p h = let none = h.1 in cc
  item_no_tree (json.item d ds) zero p h = ap (λ o. joined_items o (items_tree ds)) (no_tree d p h)
  item_no_tree (json.item d ds) (suc i) p h = ap (joined_items (tree_of d)) (item_no_tree ds i p h) ∙ joined_items-none (tree_of d)

  member_no_tree : (ms : json.Members) (k : List ℕ) (p : Path) → Leads (get_member k ms) p → members_tree ms ≡ None
  member_no_tree json.no_members k p h = let none = h.1 in cc
  member_no_tree (json.member l d ms) k p h =
      let later = λ (g : Leads (get_member k ms) p). ap (joined_members l (tree_of d)) (member_no_tree ms k p g) ∙ joined_members-none l (tree_of d) in
      elim (ordering_cases (text_cmp k l)) [
        | inl less ↦ later (rw less at h)
        | inr (inl same) ↦ ap (λ o. joined_members l o (members_tree ms)) (no_tree d p (rw same at h))
        | inr (inr greater) ↦ later (rw greater at h)
      ]

-- ---- values without one

is_some-option_map : {A B : Type 0} (f : A → B) (o : Option A) → is_some (option_map f o) ≡ is_some o
is_some-option_map f None = refl
is_some-option_map f (Some x) = refl

pub more_items : (vs : List Value) (v : Value) → is_some (items_tree (items_view vs)) ≡ true → is_some (tree_of (view v)) ≡ true → is_some (items_tree (items_view (vs ++ v ∷ []))) ≡ true
more_items vs v read one = elim (option_cases (tree_of (view v))) [
  | inl none ↦ cc (ap is_some none, one)
  | inr tree ↦ ap is_some (items_read vs v tree.0 tree.1) ∙ (is_some-option_map _ (items_tree (items_view vs)) ∙ read)
]

pub more_members : (es : List Entry) (e : Entry) → is_some (members_tree (members_view es)) ≡ true → is_some (tree_of (view e.1)) ≡ true → is_some (members_tree (members_view (es ++ e ∷ []))) ≡ true
more_members es e read one = elim (option_cases (tree_of (view e.1))) [
  | inl none ↦ cc (ap is_some none, one)
  | inr tree ↦ ap is_some (members_read es e tree.0 tree.1) ∙ (is_some-option_map _ (members_tree (members_view es)) ∙ read)
]

-- ---- the first one

pub first_here : (n : json.Num) → as_i64 n ≡ None → IsFirst (IsOtherNumberAt (json.number n)) []
first_here n other = record {
  here = (n, refl, other);
  none_before = λ e h. not_before_root e;
}

item_taken : (vs : List Value) (i j : ℕ) → j < i → get_item j (items_view (take i vs)) ≡ get_item j (items_view vs)
item_taken vs zero j lt = absurd (omega arith)
item_taken [] (suc i) j lt = refl
item_taken (v ∷ vs) (suc i) zero lt = refl
item_taken (v ∷ vs) (suc i) (suc j) lt = item_taken vs i j (omega arith)

module _ (vs : List Value) (i : ℕ) (v : Value) (p : Path) (read : is_some (items_tree (items_view (take i vs))) ≡ true) (here : get_item i (items_view vs) ≡ Some (view v)) (first : IsFirst (IsOtherNumberAt (view v)) p) where
  none_before_item : (e : Path) → IsOtherNumberAt (json.array (items_view vs)) e → path_cmp e (index i ∷ p) ≢ Less
  none_before_item [] h less = let none = h.1 in cc
  none_before_item (name k ∷ e) h less = let none = h.1 in cc
  none_before_item (index j ∷ e) h less = elim (cases_lt j i) [
    | inl before ↦ let none = item_no_tree (items_view (take i vs)) j e (subst (λ o. Leads o e) (sym (item_taken vs i j before)) h) in cc (ap is_some none, read)
    | inr past ↦ elim (cases_lt i j) [
      | inl after ↦ not_before_index i j e p after less
      | inr within ↦
          let same : j ≡ i = omega (arith, past, within) in
          first.none_before e (subst (λ o. Leads o e) (ap (λ k. get_item k (items_view vs)) same ∙ here) h)
          (sym (same_step (index i) e p) ∙ (ap (λ k. path_cmp (index k ∷ e) (index i ∷ p)) (sym same) ∙ less))
    ]
  ]

  pub first_item : IsFirst (IsOtherNumberAt (json.array (items_view vs))) (index i ∷ p)
  first_item = record {
    here = subst (λ o. Leads o p) (sym here) first.here;
    none_before = none_before_item;
  }

-- ---- in members, by names that are in order

abbrev Above : List ℕ → List Entry → Type 0
Above k es = AllByRecursion (λ y. slice_cmp nat_cmp k (string_bytes y) ≡ Less) (keys_of es)

none_above : (k : List ℕ) (es : List Entry) → Above k es → get_member k (members_view es) ≡ None
none_above k [] above = refl
none_above k (e ∷ es) above = rw above.0 (none_above k es above.1)

above_too : (k l : List ℕ) (es : List Entry) → text_cmp k l ≡ Less → Above l es → Above k es
above_too k l [] before above = tt
above_too k l (e ∷ es) before above = (nat_list_cmp_total.trans k l (string_bytes e.0) before above.0, above_too k l es before above.1)

above_middle : (k : List ℕ) (done : List Entry) (e : Entry) (rest : List Entry) → Above k (done ++ e ∷ rest) → text_cmp k (string_bytes e.0) ≡ Less
above_middle k [] e rest above = above.0
above_middle k (d ∷ done) e rest above = above_middle k done e rest above.1

member_before : (done : List Entry) (e : Entry) (rest : List Entry) (k : List ℕ) → IsStrictlySortedBy string_cmp (keys_of (done ++ e ∷ rest)) → text_cmp k (string_bytes e.0) ≡ Less
    → get_member k (members_view (done ++ e ∷ rest)) ≡ get_member k (members_view done)
unfolding IsStrictlySortedBy
member_before [] e rest k sorted before = rw before (none_above k rest (above_too k (string_bytes e.0) rest before sorted.0))
member_before (d ∷ done) e rest k sorted before = ap (λ o. match_ordering (text_cmp k (string_bytes d.0)) o (Some (view d.1)) o) (member_before done e rest k sorted.1 before)

member_at : (done : List Entry) (e : Entry) (rest : List Entry) → IsStrictlySortedBy string_cmp (keys_of (done ++ e ∷ rest)) → get_member (string_bytes e.0) (members_view (done ++ e ∷ rest)) ≡ Some (view e.1)
unfolding IsStrictlySortedBy
member_at [] e rest sorted = member_here (string_bytes e.0) e rest refl
member_at (d ∷ done) e rest sorted =
    let turned = nat_list_cmp_total.antisymm (string_bytes e.0) (string_bytes d.0) ∙ ap ordering_reverse (above_middle (string_bytes d.0) done e rest sorted.0) in
    rw turned (member_at done e rest sorted.1)

module _ (done : List Entry) (e : Entry) (rest : List Entry) (p : Path) (read : is_some (members_tree (members_view done)) ≡ true) (sorted : IsStrictlySortedBy string_cmp (keys_of (done ++ e ∷ rest))) (first : IsFirst (IsOtherNumberAt (view e.1)) p) where
  none_before_member : (f : Path) → IsOtherNumberAt (json.object (members_view (done ++ e ∷ rest))) f → path_cmp f (name (string_bytes e.0) ∷ p) ≢ Less
  none_before_member [] h less = let none = h.1 in cc
  none_before_member (index j ∷ f) h less = let none = h.1 in cc
  none_before_member (name k ∷ f) h less = elim (ordering_cases (text_cmp k (string_bytes e.0))) [
    | inl before ↦ let none = member_no_tree (members_view done) k f (subst (λ o. Leads o f) (member_before done e rest k sorted before) h) in cc (ap is_some none, read)
    | inr (inl tied) ↦
        let same : k ≡ string_bytes e.0 = same_name k (string_bytes e.0) (sym (is_eq-slice_cmp k (string_bytes e.0)) ∙ ap is_eq tied) in
        first.none_before f (subst (λ o. Leads o f) (ap (λ l. get_member l (members_view (done ++ e ∷ rest))) same ∙ member_at done e rest sorted) h)
        (sym (same_step (name (string_bytes e.0)) f p) ∙ (ap (λ l. path_cmp (name l ∷ f) (name (string_bytes e.0) ∷ p)) (sym same) ∙ less))
    | inr (inr after) ↦ let greater = rw after at less in cc
  ]

  pub first_member : IsFirst (IsOtherNumberAt (json.object (members_view (done ++ e ∷ rest)))) (name (string_bytes e.0) ∷ p)
  first_member = record {
    here = subst (λ o. Leads o p) (sym (member_at done e rest sorted)) first.here;
    none_before = none_before_member;
  }

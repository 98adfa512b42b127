-- Which items of a set or of a map list are alike an earlier one.
use Rattle.std.proofs.Common.{◌≡◌, ◌↔◌, ℕ, List, [], ◌∷◌, Bool, true, false, Option, Some, None, refl, sym, ap, ◌∙◌, subst, inl, inr}
use Rattle.std.specs.Prelude.{unwrap_or}
use Rattle.std.specs.declared.cmp.Ordering.TheVariants.{Less}
use Rattle.jtree.specs.Data.{Data, null, object, Members, member}
use Rattle.jtree.specs.Nodes.{node_count}
use Rattle.jtree.specs.Order.{text_cmp}
use Rattle.jtree.specs.Internal.Lookups.{bool_cases, member_first, member_later, later_name}
use Rattle.jtree.specs.Path.{member_at}
use Rattle.enumerate.proofs.walks.Least.{same_tree, own_tree}
use Rattle.enumerate.specs.View.{trees_of}
use Rattle.jtree.specs.Internal.Rising.{Among, contains}
use Rattle.plan.specs.Pools.Pools.{Pools}
use Rattle.plan.specs.Samples.Part.{IsPart}
use Rattle.stored.specs.Objects.Tests.{is_same}
use Rattle.enumerate.proofs.leaves.Lemmas.{has_tree}
use Rattle.schema.specs.Rules.Keywords.{any_item}
use Rattle.jtree.specs.View.{data_of, items_of}
use Rattle.jtree.specs.declared.value.Tree.{Tree}
use Rattle.plan.specs.Samples.Sites.{Site, Slot, slots}
use Rattle.plan.specs.Samples.Sizes.{AreFillings}
use Rattle.plan.specs.Samples.RuleOfParts.{members_in, RuleOfParts, IsRowPart, AreParts, alike_at}
use Rattle.plan.specs.Samples.Keys.{AreInOrder, HasSoundParts, AreSetItems, AreMapItems, key_under}
use Rattle.plan.specs.Samples.Keys as K
use Rattle.plan.specs.Samples.Question.{Question}
use Rattle.enumerate.specs.Internal.Nodes.{site}
use Rattle.enumerate.specs.Internal.Rows.{still_used, key_values}
use Rattle.enumerate.specs.Internal.Candidates.{agreeing_if, agreeing, has_under, is_there}
use Rattle.enumerate.specs.Internal.Lists.{IsUnusedItem}
use Rattle.enumerate.specs.Internal.Membership.{still_left, IsUnusedRow}
use Rattle.enumerate.proofs.walks.Membership.{row_of, row_from}
use Rattle.enumerate.proofs.rows.Lemmas.{among_filter, filter_among}
use Rattle.enumerate.proofs.lists.Whole.{any_false, false_any, among_parts}
use Rattle.std.proofs.lemmas.Bool.{false_from_ne_true}

-- ---- which items are alike

pub any_found : (P : Pools) (s M : Site) (ts : List Tree) (t : Tree) → AreSetItems P s M → AreParts P M (items_of ts) → IsPart P M (data_of t) → any_item (λ u. alike_at s u (data_of t)) (items_of ts) ≡ has_tree ts t
any_found P s M [] t set are part = refl
any_found P s M (u ∷ ts) t set are part = rw (set.alike (data_of u) (data_of t) are.0 part, any_found P s M ts t set are.1 part) refl

-- ---- the keys of rows

left_in : (ss : List Slot) (gs : List (Option Data)) (us : List Data) (u : Data) → Among (still_left ss gs us) u → Among us u
left_in [] gs us u a = a
left_in (s ∷ ss) [] us u a = a
left_in (s ∷ ss) (None ∷ gs) us u a = left_in ss gs us u a
left_in (s ∷ ss) (Some v ∷ gs) us u a = agreeing_in s.key s.name v us u (left_in ss gs (still_used s v us) u a) where
  agreeing_in : (b : Bool) (k : List ℕ) (v : Data) (us : List Data) (u : Data) → Among (agreeing_if b k v us) u → Among us u
  agreeing_in true k v us u a = (among_filter (has_under k v) us u a).0
  agreeing_in false k v us u a = a

abbrev MustKeys : List Slot → Type 0
MustKeys ss = (s : Slot) → Among ss s → s.key ≡ true → s.must ≡ true

abbrev KeysThere : List Slot → Members → Type 0
KeysThere ss ms = (s : Slot) → Among ss s → s.key ≡ true → (w : Data) × (member_at s.name ms ≡ Some w)

abbrev AreAbove : List ℕ → List Slot → Type 0
AreAbove k ss = (t : Slot) → Among ss t → text_cmp k t.name ≡ Less

no_key : (s : Slot) → (s.key ≡ true → s.must ≡ true) → s.must ≡ false → s.key ≡ false
no_key s must may = elim (bool_cases s.key) [ inl holds ↦ let e = must holds in let both : true ≡ false = sym e ∙ may in cc | inr fails ↦ fails ]

left_law : (P : Pools) (ss : List Slot) (gs : List (Option Data)) → AreFillings P ss gs → MustKeys ss → (us : List Data) (ms : Members) → Among us (object ms) → KeysThere ss ms
    → Among (still_left ss gs us) (object ms) ↔ (key_under ss (object ms) ≡ key_values ss gs)
left_law P [] [] are must us ms a there = (λ _. refl, λ _. a)
left_law P [] (g ∷ gs) are must us ms a there = absurd are
left_law P (s ∷ ss) [] are must us ms a there = absurd are
left_law P (s ∷ ss) (None ∷ gs) are must us ms a there =
    rw (no_key s (must s (inl refl)) are.0) (left_law P ss gs are.1 (λ t b. must t (inr b)) us ms a (λ t b. there t (inr b)))
left_law P (s ∷ ss) (Some v ∷ gs) are must us ms a there = elim (bool_cases s.key) [
  | inr fails ↦ rw fails (left_law P ss gs are.1 (λ t b. must t (inr b)) us ms a (λ t b. there t (inr b)))
  | inl holds ↦
      let w = there s (inl refl) holds in
      let under_is : K.under ms s ≡ w.0 = ap (λ o. unwrap_or o null) w.1 in
      let has_is : has_under s.name v (object ms) ≡ is_same w.0 v = ap (λ o. is_there o v) w.1 in
      let later = λ (b : Among (agreeing s.name v us) (object ms)). left_law P ss gs are.1 (λ t d. must t (inr d)) (agreeing s.name v us) ms b (λ t d. there t (inr d)) in
      rw holds (
        λ left.
            let here = left_in ss gs (agreeing s.name v us) (object ms) left in
            let same : w.0 ≡ v = same_tree w.0 v (sym has_is ∙ (among_filter (has_under s.name v) us (object ms) here).1) in
            let first : K.under ms s ≡ v = under_is ∙ same in
            let rest = (later here).0 left in
            cc,
        λ keys.
            let first : K.under ms s ≡ v = cc in
            let same : w.0 ≡ v = sym under_is ∙ first in
            let rest : key_under ss (object ms) ≡ key_values ss gs = cc in
            let here = filter_among (has_under s.name v) us (object ms) a (has_is ∙ rw same (own_tree v)) in
            (later here).1 rest,
      )
]

skip_keys : (k : List ℕ) (v : Data) (ms : Members) (ss : List Slot) → AreAbove k ss → key_under ss (object (member k v ms)) ≡ key_under ss (object ms)
skip_keys k v ms [] above = refl
skip_keys k v ms (t ∷ ss) above = elim (bool_cases t.key) [
  | inr fails ↦ rw fails (skip_keys k v ms ss (λ u a. above u (inr a)))
  | inl holds ↦
      let first : K.under (member k v ms) t ≡ K.under ms t = ap (λ o. unwrap_or o null) (member_later t.name k v ms (later_name t.name k (above t (inl refl)))) in
      let rest = skip_keys k v ms ss (λ u a. above u (inr a)) in
      rw holds (cc)
]

pub own_keys : (P : Pools) (ss : List Slot) (gs : List (Option Data)) → AreInOrder ss → AreFillings P ss gs → MustKeys ss → key_under ss (object (members_in ss gs)) ≡ key_values ss gs
own_keys P [] [] order are must = refl
own_keys P [] (g ∷ gs) order are must = absurd are
own_keys P (s ∷ ss) [] order are must = absurd are
own_keys P (s ∷ ss) (None ∷ gs) order are must = rw (no_key s (must s (inl refl)) are.0) (own_keys P ss gs order.1 are.1 (λ t b. must t (inr b)))
own_keys P (s ∷ ss) (Some v ∷ gs) order are must =
    let rest = skip_keys s.name v (members_in ss gs) ss (λ t a. order.0 t (contains ss t a)) ∙ own_keys P ss gs order.1 are.1 (λ t b. must t (inr b)) in
    elim (bool_cases s.key) [
      | inr fails ↦ rw fails rest
      | inl holds ↦
          let first : K.under (members_in (s ∷ ss) (Some v ∷ gs)) s ≡ v = ap (λ o. unwrap_or o null) (member_first s.name v (members_in ss gs)) in
          rw holds (cc)
    ]

keys_there : (P : Pools) (ss : List Slot) (gs : List (Option Data)) → AreInOrder ss → AreFillings P ss gs → MustKeys ss → KeysThere ss (members_in ss gs)
keys_there P [] gs order are must t a key = absurd a
keys_there P (s ∷ ss) [] order are must t a key = absurd are
keys_there P (s ∷ ss) (None ∷ gs) order are must t (inl same) key =
    let yes = must t (inl same) key in
    let no : t.must ≡ false = ap (λ x. x.must) (sym same) ∙ are.0 in
    let both : true ≡ false = sym yes ∙ no in
    cc
keys_there P (s ∷ ss) (None ∷ gs) order are must t (inr a) key = keys_there P ss gs order.1 are.1 (λ u b. must u (inr b)) t a key
keys_there P (s ∷ ss) (Some v ∷ gs) order are must t (inl same) key = (v, ap (λ x. member_at x.name (members_in (s ∷ ss) (Some v ∷ gs))) (sym same) ∙ member_first s.name v (members_in ss gs))
keys_there P (s ∷ ss) (Some v ∷ gs) order are must t (inr a) key =
    let w = keys_there P ss gs order.1 are.1 (λ u b. must u (inr b)) t a key in
    (w.0, member_later t.name s.name v (members_in ss gs) (later_name t.name s.name (order.0 t (contains ss t a))) ∙ w.1)

-- ---- unused items of map lists

module _ (q : Question) (i c : ℕ) (rule : RuleOfParts q.pools q.limit (site q c)) (sound : HasSoundParts q.pools (site q c)) (map : AreMapItems q.pools (site q i) (site q c)) where
  must_keys : MustKeys (slots q.pools (site q c))
  must_keys s a key = (sound.keys s (contains (slots q.pools (site q c)) s a) key).must

  as_row : (v : Data) → IsPart q.pools (site q c) v → IsRowPart q.pools (site q c) v
  as_row v part = elim ((rule.row v map.row).0 part) [
    | inl none ↦ let both : true ≡ false = sym none.1 ∙ map.never_null in cc
    | inr h ↦ h
  ]

  -- an earlier item is left exactly where it is alike
  left_alike : (us : List Data) (u v : Data) → Among us u → IsPart q.pools (site q c) u → (h : IsRowPart q.pools (site q c) v) → IsPart q.pools (site q c) v
      → Among (still_left (slots q.pools (site q c)) h.fillings us) u ↔ (alike_at (site q i) u v ≡ true)
  left_alike us u v a part h own =
      let ss = slots q.pools (site q c) in
      let k = as_row u part in
      let there = keys_there q.pools ss k.fillings sound.order k.are must_keys in
      let law = left_law q.pools ss h.fillings h.are must_keys us (members_in ss k.fillings) (subst (Among us) k.is a) there in
      let mine : key_under ss v ≡ key_values ss h.fillings = ap (key_under ss) h.is ∙ own_keys q.pools ss h.fillings sound.order h.are must_keys in
      let other : key_under ss u ≡ key_under ss (object (members_in ss k.fillings)) = ap (key_under ss) k.is in
      let alike = map.alike u v part own in (
        λ left. alike.1 (other ∙ (law.0 (subst (Among (still_left ss h.fillings us)) k.is left) ∙ sym mine)),
        λ yes. subst (Among (still_left ss h.fillings us)) (sym k.is) (law.1 (sym other ∙ (alike.0 yes ∙ mine))),
      )

  module _ (ts : List Tree) (v : Data) (parts : AreParts q.pools (site q c) (items_of ts)) where
    pub unused_item : IsUnusedRow q c (trees_of ts) v → IsUnusedItem q i c (node_count v) (items_of ts) v
    unused_item r =
        let h = row_of q c (trees_of ts) v r in
        let own = (rule.row v map.row).1 (inr h.0) in
        record {
          part = record { part = own; nodes_are = refl };
          unused = false_any (λ u. alike_at (site q i) u v) ts (λ u a. false_from_ne_true (alike_at (site q i) u v)
              (λ holds. subst (λ us. Among us u) h.1 ((left_alike (trees_of ts) u v a (among_parts q.pools (site q c) ts parts u a) h.0 own).1 holds)));
        }

    pub unused_row : IsUnusedItem q i c (node_count v) (items_of ts) v → IsUnusedRow q c (trees_of ts) v
    unused_row f =
        let h = as_row v f.part.part in
        row_from q c (trees_of ts) v h (no_one (still_left (slots q.pools (site q c)) h.fillings (trees_of ts)) (λ u left.
        let a = left_in (slots q.pools (site q c)) h.fillings (trees_of ts) u left in
        let yes = (left_alike (trees_of ts) u v a (among_parts q.pools (site q c) ts parts u a) h f.part.part).0 left in
        let no = any_false (λ u. alike_at (site q i) u v) ts f.unused u a in
        let both : true ≡ false = sym yes ∙ no in
        cc)) where
          no_one : (us : List Data) → ((u : Data) → Among us u → ⊥) → us ≡ []
          no_one [] none = refl
          no_one (u ∷ us) none = absurd (none u (inl refl))

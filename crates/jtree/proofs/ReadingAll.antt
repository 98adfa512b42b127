-- From a document to a tree with all numbers, one part at a time.
use Rattle.std.proofs.Common.{◌≡◌, ◌<◌, ◌+◌, ℕ, zero, suc, length, get_or, drop, arith, List, [], ◌∷◌, ◌++◌, Some, None, option_map, option_and_then, Bor, sym, ap, ◌∙◌}
use Rattle.std.proofs.lemmas.List.{at_drop_more}
use Rattle.json.specs.Tree.{HasNumbers, ItemsHaveNumbers, MembersHaveNumbers}
use Rattle.json.specs.Value.{value_view, items_view, members_view}
use Rattle.json.specs.declared.value.Value.{Value}
use Rattle.jtree.specs.Data.{Data, Members}
use Rattle.jtree.specs.MemberPlace.{with_member}
use Rattle.jtree.specs.ReadsAll.{tree_in, items_in, members_in}
use Rattle.jtree.specs.View.{data_of, items_of}
use Rattle.jtree.specs.declared.value.Tree.{Tree}
use Rattle.jtree.proofs.Reading.{joined_items, joined_items-none, and_item, joined_items-and, items_of-and}

module _ {A : Type 0} where
  pub item_numbers : (vs : List (Value A)) (i : ℕ) (v : Value A) → i < length vs → v ≡ get_or vs i v → ItemsHaveNumbers (items_view vs) → HasNumbers (value_view v)
  item_numbers [] i v within is h = absurd (omega arith)
  item_numbers (u ∷ vs) zero v within is h = rw is h.0
  item_numbers (u ∷ vs) (suc i) v within is h = item_numbers vs i v (omega arith) is h.1

  pub member_numbers : (ps : List (Bor (List ℕ) × Value A)) (i : ℕ) (p : Bor (List ℕ) × Value A) → i < length ps → p ≡ get_or ps i p → MembersHaveNumbers (members_view ps) → HasNumbers (value_view p.1)
  member_numbers [] i p within is h = absurd (omega arith)
  member_numbers (q ∷ ps) zero p within is h = rw is h.0
  member_numbers (q ∷ ps) (suc i) p within is h = member_numbers ps i p (omega arith) is h.1

  items_read : (vs : List (Value A)) (v : Value A) (e : Data) → tree_in (value_view v) ≡ Some e → items_in (items_view (vs ++ v ∷ [])) ≡ option_map (λ ds. and_item ds e) (items_in (items_view vs))
  items_read [] v e h = rw h
  items_read (w ∷ vs) v e h = ap (joined_items (tree_in (value_view w))) (items_read vs v e h) ∙ joined_items-and (tree_in (value_view w)) (items_in (items_view vs)) e

  pub one_more_item : (vs : List (Value A)) (v : Value A) (ts : List Tree) (t : Tree) → items_in (items_view vs) ≡ Some (items_of ts) → tree_in (value_view v) ≡ Some (data_of t)
      → items_in (items_view (vs ++ v ∷ [])) ≡ Some (items_of (ts ++ t ∷ []))
  one_more_item vs v ts t read one = items_read vs v (data_of t) one ∙ ap (option_map (λ ds. and_item ds (data_of t))) read ∙ ap (λ ds. Some ds) (items_of-and ts t)

  pub no_items_tree : (vs : List (Value A)) (i : ℕ) (v : Value A) → i < length vs → tree_in (value_view (get_or vs i v)) ≡ None → items_in (items_view vs) ≡ None
  no_items_tree [] i v within h = absurd (omega arith)
  no_items_tree (u ∷ vs) zero v within h = rw h
  no_items_tree (u ∷ vs) (suc i) v within h = ap (joined_items (tree_in (value_view u))) (no_items_tree vs i v (omega arith) h) ∙ joined_items-none (tree_in (value_view u))

  -- the next member goes in
  pub members_step : (ps : List (Bor (List ℕ) × Value A)) (i : ℕ) (p : Bor (List ℕ) × Value A) → i < length ps → p ≡ get_or ps i p → (found : Members)
      → members_in (members_view (drop i ps)) found ≡ option_and_then (λ d. members_in (members_view (drop (i + 1) ps)) (with_member p.0.now d found)) (tree_in (value_view p.1))
  members_step ps i p within is found =
      at_drop_more (λ xs. members_in (members_view xs) found) ps i p within
      ∙ ap (λ q. option_and_then (λ d. members_in (members_view (drop (i + 1) ps)) (with_member q.0.now d found)) (tree_in (value_view q.1))) (sym is)

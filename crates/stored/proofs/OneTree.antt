-- A tree is known by what is at its paths, so a value becomes one tree alone.
use Rattle.std.proofs.Common.{◌≡◌, ℕ, suc, List, [], ◌∷◌, false, Some, refl, ap, sym, ◌∙◌, subst, inl, inr}
use Rattle.std.specs.Prelude.{option_map, option_and_then}
use Rattle.std.specs.Str.{bytes_eq}
use Rattle.std.specs.Ordering.{ordering_reverse}
use Rattle.std.specs.declared.cmp.Ordering.TheVariants.{Less, Greater}
use Rattle.std.proofs.lemmas.Cmp.{nat_list_cmp_total}
use Rattle.std.proofs.lemmas.Map.Lookups.{exact_bytes}
use Rattle.jtree.specs.Data.{Data, Items, no_items, item, Members, no_members, member, IsTree, AreTrees, AreMembers}
use Rattle.jtree.specs.Data as tree
use Rattle.jtree.specs.Order.{text_cmp}
use Rattle.jtree.specs.Path.{name, index, Path, member_at, item_at, part_at}
use Rattle.jtree.specs.Internal.Lookups.{bool_cases, ordering_cases, same_name, member_first, member_later, before_none}
use Rattle.schema.specs.Nodes.Node.{Node}
use Rattle.stored.specs.Objects.Parts.{Leading}
use Rattle.stored.specs.Objects.Becomes.{label, Becomes, leads_uncut, leads_filled, IsFilled, IsCompleted}

turned_names : (k l : List ℕ) → text_cmp k l ≡ Greater → text_cmp l k ≡ Less
turned_names k l after = nat_list_cmp_total.antisymm l k ∙ ap ordering_reverse after

-- after equal first names, the other members agree where the whole objects do
same_rest : (k l : List ℕ) (d e : Data) (ms ns : Members) → k ≡ l → AreMembers (member k d ms) → AreMembers (member l e ns) → (m : List ℕ) (path : Path)
    → option_map label (option_and_then (λ x. part_at x path) (member_at m (member k d ms))) ≡ option_map label (option_and_then (λ x. part_at x path) (member_at m (member l e ns)))
    → option_map label (option_and_then (λ x. part_at x path) (member_at m ms)) ≡ option_map label (option_and_then (λ x. part_at x path) (member_at m ns))
same_rest k l d e ms ns is t u m path h = elim (bool_cases (bytes_eq m k)) [
  | inl here ↦
      let name_is : m ≡ k = same_name m k here in
      rw (name_is, before_none k ms t.1 t.2) (rw (is, before_none l ns u.1 u.2) refl)
  | inr other ↦
      let other_too : bytes_eq m l ≡ false = subst (λ n. bytes_eq m n ≡ false) is other in
      rw (member_later m k d ms other, member_later m l e ns other_too) at h
]

mutual
  pub same_tree : (v w : Data) → IsTree v → IsTree w → ((path : Path) → option_map label (part_at v path) ≡ option_map label (part_at w path)) → v ≡ w
  same_tree tree.null tree.null t u h = refl
  same_tree (tree.boolean a) (tree.boolean b) t u h = let e = h [] in cc
  same_tree (tree.integer a) (tree.integer b) t u h = let e = h [] in cc
  same_tree (tree.number a) (tree.number b) t u h = let e = h [] in cc
  same_tree (tree.text a) (tree.text b) t u h = let e = h [] in cc
  same_tree (tree.list ds) (tree.list es) t u h = ap tree.list (same_items ds es t u (λ i path. h (index i ∷ path)))
  same_tree (tree.object ms) (tree.object ns) t u h = ap tree.object (same_members ms ns t u (λ k path. h (name k ∷ path)))
  same_tree v w t u h = let e = h [] in cc

  same_items : (ds es : Items) → AreTrees ds → AreTrees es
      → ((i : ℕ) (path : Path) → option_map label (option_and_then (λ e. part_at e path) (item_at i ds)) ≡ option_map label (option_and_then (λ e. part_at e path) (item_at i es))) → ds ≡ es
  same_items no_items no_items t u h = refl
  same_items (item d ds) (item e es) t u h = λ j. item (same_tree d e t.0 u.0 (λ path. h 0 path) j) (same_items ds es t.1 u.1 (λ i path. h (suc i) path) j)
  same_items no_items (item e es) t u h = let n = h 0 [] in cc
  same_items (item d ds) no_items t u h = let n = h 0 [] in cc

  same_members : (ms ns : Members) → AreMembers ms → AreMembers ns
      → ((k : List ℕ) (path : Path) → option_map label (option_and_then (λ e. part_at e path) (member_at k ms)) ≡ option_map label (option_and_then (λ e. part_at e path) (member_at k ns))) → ms ≡ ns
  same_members no_members no_members t u h = refl
  same_members no_members (member l e ns) t u h = let n = rw (member_first l e ns) at (h l []) in cc
  same_members (member k d ms) no_members t u h = let n = rw (member_first k d ms) at (h k []) in cc
  same_members (member k d ms) (member l e ns) t u h = elim (ordering_cases (text_cmp k l)) [
    | inl before ↦ let n = rw (member_first k d ms, before_none k (member l e ns) before u) at (h k []) in cc
    | inr (inl same) ↦
        let is : k ≡ l = exact_bytes k l same in
        let second : member_at k (member l e ns) ≡ Some e = subst (λ n. member_at n (member l e ns) ≡ Some e) (sym is) (member_first l e ns) in
        let first : (path : Path) → option_map label (part_at d path) ≡ option_map label (part_at e path) = λ path. rw (member_first k d ms, second) at (h k path) in
        let rest = λ (m : List ℕ) (path : Path). same_rest k l d e ms ns is t u m path (h m path) in
        λ j. member (is j) (same_tree d e t.0 u.0 first j) (same_members ms ns t.2 u.2 rest j)
    | inr (inr after) ↦ let n = rw (member_first l e ns, before_none l (member k d ms) (turned_names k l after) t) at (h l []) in cc
  ]

pub becomes_one : (lead : Leading) (N : Node) (v w u : Data) → IsTree w → IsTree u → Becomes lead N v w → Becomes lead N v u → w ≡ u
becomes_one lead N v w u t s a b = same_tree w u t s (λ path. a path ∙ sym (b path))

pub completed_one : (N : Node) (v w u : Data) → IsTree w → IsTree u → IsCompleted N v w → IsCompleted N v u → w ≡ u
completed_one N v w u t s a b =
    let between = becomes_one leads_uncut N v a.between b.between a.tree b.tree a.pruned b.pruned in
    becomes_one leads_filled N b.between w u t s (subst (λ d. IsFilled N d w) between a.filled) b.filled

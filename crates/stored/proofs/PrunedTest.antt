-- The test finds nothing that is cut exactly where pruning changes nothing.
use Rattle.std.proofs.Common.{◌≡◌, ℕ, zero, suc, List, ◌∷◌, Bool, true, false, Option, Some, None, refl, sym, ap, ◌∙◌, subst, inl, inr}
use Rattle.std.specs.Prelude.{◌&&◌}
use Rattle.std.specs.Str.{bytes_eq}
use Rattle.std.proofs.lemmas.Option.{same_Some}
use Rattle.jtree.specs.Data.{Data, Items, no_items, item, Members, no_members, member, IsTree, AreTrees, AreMembers}
use Rattle.jtree.specs.Data as tree
use Rattle.jtree.specs.Path.{name, index, member_at, item_at}
use Rattle.jtree.specs.Internal.Lookups.{bool_cases, option_cases, same_name, member_first, member_later, member_tail}
use Rattle.schema.specs.Nodes.Node.{Node, node, object, map, list, Fields, Validations}
use Rattle.schema.specs.Nodes.ByPlace.{Declared, field_at}
use Rattle.schema.specs.declared.node.Bounds.{Bounds}
use Rattle.schema.specs.declared.node.MapType.{MapType}
use Rattle.stored.specs.Objects.Becomes.{leads_uncut, label, IsPruned}
use Rattle.stored.specs.Internal.Pruning.{field_node, by_node, is_pruned, are_pruned, are_items_pruned}
use Rattle.stored.proofs.FilledAgain.{absent}
use Rattle.stored.proofs.PrunedAgain.{Prunes, prunes, uncut, pruned_part}

both : (a b : Bool) → (a && b) ≡ true → (a ≡ true) × (b ≡ true)
both true b e = (refl, e)
both false b e = absurd (cc)

-- ---- where the test says so, nothing is cut

kept_at : (nodes : List ℕ → Option Node) (preserves : Bool) (ms : Members) (k : List ℕ) (d : Data) → are_pruned nodes preserves ms ≡ true → member_at k ms ≡ Some d → by_node (nodes k) (λ N. is_pruned N d) preserves ≡ true
kept_at nodes preserves no_members k d all found = absurd (cc)
kept_at nodes preserves (member l e ms) k d all found =
    let these = both (by_node (nodes l) (λ N. is_pruned N e) preserves) (are_pruned nodes preserves ms) all in
    elim (bool_cases (bytes_eq k l)) [
      | inl t ↦ let same = same_Some e d (rw t at found) in rw (same_name k l t, ← same) these.0
      | inr f ↦ kept_at nodes preserves ms k d these.1 (sym (member_later k l e ms f) ∙ found)
    ]

item_kept : (N : Node) (ds : Items) (i : ℕ) (d : Data) → are_items_pruned N ds ≡ true → item_at i ds ≡ Some d → is_pruned N d ≡ true
item_kept N no_items i d all found = absurd (cc)
item_kept N (item e ds) zero d all found = rw (← same_Some e d found) (both (is_pruned N e) (are_items_pruned N ds) all).0
item_kept N (item e ds) (suc i) d all found = item_kept N ds i d (both (is_pruned N e) (are_items_pruned N ds) all).1 found

pub record PassesTest (N : Node) (v w : Data) : Type 0 where
  pub same : w ≡ v
  pub passes : is_pruned N w ≡ true

passes_below : Prunes PassesTest
passes_below = record {
  alike = λ N v w p. ap label p.same;
  cut = λ n t fs type bounds cs ms ns k p none. elim (option_cases (member_at k ns)) [
    | inl gone ↦ gone
    | inr d ↦ let no = rw none at (kept_at (field_node fs) false ns k d.0 p.passes d.1) in absurd (cc)
  ];
  field = λ n t fs preserves type bounds cs ms ns k f e p found is. (e, record { same = refl; passes = rw found at (kept_at (field_node fs) preserves ns k e p.passes is) });
  value = λ n t M type bounds ms ns k e p is. (e, record { same = refl; passes = kept_at (λ l. Some M) true ns k e p.passes is });
  item = λ n t M type keys bounds ds es i e p is. (e, record { same = refl; passes = item_kept M es i e p.passes is });
}

pub test_sound : (N : Node) (v : Data) → is_pruned N v ≡ true → IsPruned N v v
test_sound N v passes = prunes PassesTest passes_below N v v (record { same = refl; passes = passes })

-- ---- and where nothing is cut it says so

-- the node of a declared name
field_of_node : (fs : Fields) (k : List ℕ) (M : Node) → field_node fs k ≡ Some M → (f : Declared) × (field_at k fs ≡ Some f) × (f.node ≡ M)
field_of_node fs k M is = elim (option_cases (field_at k fs)) [
  | inl none ↦ let no = rw none at is in absurd (cc)
  | inr f ↦ (f.0, f.1, same_Some f.0.node M (rw f.1 at is))
]

field_pruned : (n : Bool) (t : Option (List ℕ)) (fs : Fields) (preserves : Bool) (type : MapType) (bounds : Bounds) (cs : Validations) (ms : Members) → IsPruned (node n t (object fs preserves type bounds cs)) (tree.object ms) (tree.object ms)
    → (k : List ℕ) (M : Node) (d : Data) → field_node fs k ≡ Some M → member_at k ms ≡ Some d → IsPruned M d d
field_pruned n t fs preserves type bounds cs ms p k M d is found =
    let f = field_of_node fs k M is in
    subst (λ K. IsPruned K d d) f.2 (pruned_part f.0.node (member_at k ms) d (uncut n t fs preserves type bounds cs ms ms k f.0 p f.1) found)

none_cut : (n : Bool) (t : Option (List ℕ)) (fs : Fields) (preserves : Bool) (type : MapType) (bounds : Bounds) (cs : Validations) (ms : Members) → IsPruned (node n t (object fs preserves type bounds cs)) (tree.object ms) (tree.object ms)
    → (k : List ℕ) (d : Data) → field_node fs k ≡ None → member_at k ms ≡ Some d → preserves ≡ true
none_cut n t fs true type bounds cs ms p k d none found = refl
none_cut n t fs false type bounds cs ms p k d none found = elim (option_cases (field_at k fs)) [
  | inl is ↦ let gone = absent leads_uncut None (member_at k ms) (λ q. rw is at (p (name k ∷ q))) refl in let no = sym gone ∙ found in absurd (cc)
  | inr f ↦ let no = rw f.1 at none in absurd (cc)
]

mutual
  pub test_complete : (N : Node) (v : Data) → IsTree v → IsPruned N v v → is_pruned N v ≡ true
  test_complete (node n t (object fs preserves type bounds cs)) (tree.object ms) o p =
      members_complete (field_node fs) preserves ms o (field_pruned n t fs preserves type bounds cs ms p) (none_cut n t fs preserves type bounds cs ms p)
  test_complete (node n t (map M type bounds)) (tree.object ms) o p =
      members_complete (λ l. Some M) true ms o
      (λ k K d is found. subst (λ J. IsPruned J d d) (same_Some M K is) (pruned_part M (member_at k ms) d (λ q. p (name k ∷ q)) found)) (λ k d none found. refl)
  test_complete (node n t (list M type keys bounds)) (tree.list ds) o p =
      items_complete M ds o (λ i d found. pruned_part M (item_at i ds) d (λ q. p (index i ∷ q)) found)
  test_complete _ v o p = refl

  members_complete : (nodes : List ℕ → Option Node) (preserves : Bool) (ms : Members) → AreMembers ms
      → ((k : List ℕ) (M : Node) (d : Data) → nodes k ≡ Some M → member_at k ms ≡ Some d → IsPruned M d d)
      → ((k : List ℕ) (d : Data) → nodes k ≡ None → member_at k ms ≡ Some d → preserves ≡ true) → are_pruned nodes preserves ms ≡ true
  members_complete nodes preserves no_members o p q = refl
  members_complete nodes preserves (member l e ms) o p q =
      let rest : are_pruned nodes preserves ms ≡ true =
      members_complete nodes preserves ms o.2 (λ k M d is found. p k M d is (member_tail l e ms k d o found)) (λ k d none found. q k d none (member_tail l e ms k d o found))
      in
      let first : by_node (nodes l) (λ N. is_pruned N e) preserves ≡ true = elim (option_cases (nodes l)) [
        | inl none ↦ rw none (q l e none (member_first l e ms))
        | inr N ↦ rw N.1 (test_complete N.0 e o.0 (p l N.0 e N.1 (member_first l e ms)))
      ] in
      rw (first, rest) refl

  items_complete : (N : Node) (ds : Items) → AreTrees ds → ((i : ℕ) (d : Data) → item_at i ds ≡ Some d → IsPruned N d d) → are_items_pruned N ds ≡ true
  items_complete N no_items o p = refl
  items_complete N (item e ds) o p =
      let rest : are_items_pruned N ds ≡ true = items_complete N ds o.1 (λ i d found. p (suc i) d found) in
      let first : is_pruned N e ≡ true = test_complete N e o.0 (p zero e refl) in
      rw (first, rest) refl

-- The order of rows of as many nodes is that of what is in their slots.
use Rattle.std.specs.Prelude.{◌≡◌, ℕ, ◌+◌, List, Option, Some, None, option_map, Contains}
use Rattle.std.proofs.Common.{refl, ap, sym, ◌∙◌, subst, inl, inr, arith, [], ◌∷◌}
use Rattle.std.specs.Cmp.{nat_cmp_is}
use Rattle.std.specs.Ordering.{nat_cmp}
use Rattle.std.proofs.lemmas.Cmp.{nat_list_cmp_total, tied_itself}
use Rattle.std.specs.declared.cmp.Ordering.TheVariants.{Less, Equal, Greater}
use Rattle.jtree.specs.Data.{Data, Members, no_members, member, IsNameBefore, AreMembers}
use Rattle.jtree.specs.Data as tree
use Rattle.jtree.specs.Nodes.{node_count, members_count, nodes}
use Rattle.jtree.specs.Order.{text_cmp, members_cmp, tree_cmp}
use Rattle.jtree.specs.Internal.Rising.{contains, contained}
use Rattle.plan.specs.Pools.Pools.{Pools}
use Rattle.plan.specs.Samples.Sites.{Slot}
use Rattle.plan.specs.Samples.Sizes.{AreFillings, filled_nodes}
use Rattle.plan.specs.Samples.RuleOfParts.{members_in}
use Rattle.plan.specs.Samples.Keys.{AreInOrder}
use Rattle.plan.specs.Samples.Question.{Question}
use Rattle.enumerate.specs.Least.{IsLeast, IsNext}
use Rattle.enumerate.specs.Internal.Rows.{fill_cmp, slots_from, Demand, row_demand, IsRest, IsRow}
use Rattle.enumerate.specs.Internal.Moves.{demand_of}

pub later : (s : Slot) (ss : List Slot) (t : Slot) → Contains ss t → Contains (s ∷ ss) t
later s ss t c = contains (s ∷ ss) t (inr (contained ss t c))

pub before_in : (k : List ℕ) (ss : List Slot) (gs : List (Option Data)) → ((t : Slot) → Contains ss t → text_cmp k t.name ≡ Less) → IsNameBefore k (members_in ss gs)
before_in k [] gs o = tt
before_in k (s ∷ ss) [] o = tt
before_in k (s ∷ ss) (None ∷ gs) o = before_in k ss gs (λ t c. o t (later s ss t c))
before_in k (s ∷ ss) (Some v ∷ gs) o = o s (contains (s ∷ ss) s (inl refl))

own_text : (k : List ℕ) → text_cmp k k ≡ Equal
own_text k = tied_itself nat_list_cmp_total k

text_turned : (k l : List ℕ) → text_cmp k l ≡ Less → text_cmp l k ≡ Greater
text_turned k l p = let h = nat_list_cmp_total.antisymm l k in rw p at h

without_first : (k : List ℕ) (d : Data) (ms ns : Members) → IsNameBefore k ns → members_cmp ns (member k d ms) ≡ Less
without_first k d ms no_members h = refl
without_first k d ms (member l e ns) h = rw h refl

with_first : (k : List ℕ) (d : Data) (ms ns : Members) → IsNameBefore k ns → members_cmp (member k d ms) ns ≡ Greater
with_first k d ms no_members h = refl
with_first k d ms (member l e ns) h = rw (text_turned k l h) refl

pub members_order : (P : Pools) (ss : List Slot) (gs hs : List (Option Data)) → AreInOrder ss → AreFillings P ss gs → AreFillings P ss hs → members_cmp (members_in ss gs) (members_in ss hs) ≡ fill_cmp gs hs
members_order P [] [] [] o g h = refl
members_order P [] [] (y ∷ hs) o g h = absurd h
members_order P [] (x ∷ gs) hs o g h = absurd g
members_order P (s ∷ ss) [] hs o g h = absurd g
members_order P (s ∷ ss) (x ∷ gs) [] o g h = absurd h
members_order P (s ∷ ss) (None ∷ gs) (None ∷ hs) o g h = members_order P ss gs hs o.1 g.1 h.1
members_order P (s ∷ ss) (None ∷ gs) (Some v ∷ hs) o g h = without_first s.name v (members_in ss hs) (members_in ss gs) (before_in s.name ss gs o.0)
members_order P (s ∷ ss) (Some u ∷ gs) (None ∷ hs) o g h = with_first s.name u (members_in ss gs) (members_in ss hs) (before_in s.name ss hs o.0)
members_order P (s ∷ ss) (Some u ∷ gs) (Some v ∷ hs) o g h = rw (own_text s.name, members_order P ss gs hs o.1 g.1 h.1) refl

pub filled_count_nodes : (P : Pools) (ss : List Slot) (gs : List (Option Data)) → AreFillings P ss gs → members_count (members_in ss gs) ≡ filled_nodes gs
filled_count_nodes P [] [] h = refl
filled_count_nodes P [] (g ∷ gs) h = absurd h
filled_count_nodes P (s ∷ ss) [] h = absurd h
filled_count_nodes P (s ∷ ss) (None ∷ gs) h = filled_count_nodes P ss gs h.1
filled_count_nodes P (s ∷ ss) (Some v ∷ gs) h = ap (λ n. node_count v + n) (filled_count_nodes P ss gs h.1)

pub objects_order : (ms ns : Members) → members_count ms ≡ members_count ns → tree_cmp (tree.object ms) (tree.object ns) ≡ members_cmp ms ns
objects_order ms ns e =
    let n : nat_cmp (nodes (tree.object ms)) (nodes (tree.object ns)) ≡ Equal = sym (nat_cmp_is (nodes (tree.object ms)) (nodes (tree.object ns)) Equal (omega (arith, e))) in
    rw n refl

pub in_members : (P : Pools) (ss : List Slot) (gs : List (Option Data)) → AreInOrder ss → AreFillings P ss gs → AreMembers (members_in ss gs)
in_members P [] gs o h = tt
in_members P (s ∷ ss) [] o h = tt
in_members P (s ∷ ss) (None ∷ gs) o h = in_members P ss gs o.1 h.1
in_members P (s ∷ ss) (Some v ∷ gs) o h = (h.0.tree, before_in s.name ss gs o.0, in_members P ss gs o.1 h.1)

pub rows_order : (P : Pools) (ss : List Slot) (d : Demand) (gs hs : List (Option Data)) → AreInOrder ss → IsRest P ss d gs → IsRest P ss d hs → tree_cmp (tree.object (members_in ss gs)) (tree.object (members_in ss hs)) ≡ fill_cmp gs hs
rows_order P ss d gs hs o g h =
    let nodes = filled_count_nodes P ss gs g.are ∙ g.nodes_are ∙ sym h.nodes_are ∙ sym (filled_count_nodes P ss hs h.are) in
    objects_order (members_in ss gs) (members_in ss hs) nodes ∙ members_order P ss gs hs o g.are h.are

module _ (q : Question) (i m : ℕ) (used : List Data) (o : AreInOrder (slots_from q i 0)) where
  abbrev row : List (Option Data) → Data
  row gs = tree.object (members_in (slots_from q i 0) gs)

  abbrev Rest : List (Option Data) → Type 0
  Rest gs = IsRest q.pools (slots_from q i 0) (row_demand q i m used) gs

  order : (gs hs : List (Option Data)) → Rest gs → Rest hs → tree_cmp (row gs) (row hs) ≡ fill_cmp gs hs
  order gs hs g h = rows_order q.pools (slots_from q i 0) (row_demand q i m used) gs hs o g h

  pub row_least : (gs : List (Option Data)) → IsLeast fill_cmp Rest gs → IsLeast tree_cmp (IsRow q i m used) (row gs)
  row_least gs h = record {
    is = record { fillings = gs; is = refl; rest = h.is };
    least = λ u r less. h.least r.fillings r.rest (sym (order r.fillings gs r.rest h.is) ∙ subst (λ x. tree_cmp x (row gs) ≡ Less) r.is less);
  }

  -- what is next in the slots makes the next object
  pub row_next : (gs : List (Option Data)) (next : Option (List (Option Data))) → Rest gs → IsNext fill_cmp Rest gs next → IsNext tree_cmp (IsRow q i m used) (row gs) (option_map row next)
  row_next gs None rest none = λ u r less. none r.fillings r.rest (sym (order gs r.fillings rest r.rest) ∙ subst (λ x. tree_cmp (row gs) x ≡ Less) r.is less)
  row_next gs (Some hs) rest l = record {
    is = (record { fillings = hs; is = refl; rest = l.is.0 }, order gs hs rest l.is.0 ∙ l.is.1);
    least = λ u r less. l.least r.0.fillings (r.0.rest, sym (order gs r.0.fillings rest r.0.rest) ∙ subst (λ x. tree_cmp (row gs) x ≡ Less) r.0.is r.1) (sym (order r.0.fillings hs r.0.rest l.is.0) ∙ subst (λ x. tree_cmp x (row hs) ≡ Less) r.0.is less);
  }

  pub row_moved : (old : Data) (r : IsRow q i m used old) (next : Option (List (Option Data))) → IsNext fill_cmp (IsRest q.pools (slots_from q i 0) (demand_of q i used r.fillings)) r.fillings next → IsNext tree_cmp (IsRow q i m used) old (option_map row next)
  row_moved old r next h = subst (λ v. IsNext tree_cmp (IsRow q i m used) v (option_map row next)) (sym r.is) (row_next r.fillings next r.rest (subst (λ n. IsNext fill_cmp (IsRest q.pools (slots_from q i 0) (row_demand q i n used)) r.fillings next) r.rest.nodes_are h))

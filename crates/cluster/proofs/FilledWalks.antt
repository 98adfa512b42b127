-- Walks that fill the parts of a value one after the other.
use Rattle.std.proofs.Common.{◌≡◌, ℕ, List, [], ◌∷◌, ◌++◌, Some, refl, sym, ap, ◌∙◌, subst}
use Rattle.jtree.specs.Data.{Data, Items, no_items, item, Members, no_members, member, IsTree, AreTrees, AreMembers, IsNameBefore}
use Rattle.jtree.specs.View.{data_of, items_of, members_of}
use Rattle.jtree.specs.declared.value.Tree.{Tree}
use Rattle.jtree.specs.declared.value.Member.{Member}
use Rattle.cluster.specs.Filled.{filled, filled_part, filled_members, filled_items}
use Rattle.cluster.specs.Internal.Trees.{IsFilledMember}
use Rattle.cluster.specs.Internal.Walks.{joined_items, joined, HasTrees, FillsItems, FillsMembers}

-- ---- items

item_joined : (made : List Tree) (t : Tree) (es : Items) → joined_items (items_of (made ++ t ∷ [])) es ≡ joined_items (items_of made) (item (data_of t) es)
item_joined [] t es = refl
item_joined (m ∷ made) t es = ap (item (data_of m)) (item_joined made t es)

one_more_tree : (made : List Tree) (t : Tree) → AreTrees (items_of made) → IsTree (data_of t) → AreTrees (items_of (made ++ t ∷ []))
one_more_tree [] t are is = (is, tt)
one_more_tree (m ∷ made) t are is = (are.0, one_more_tree made t are.1 is)

items_end_joined : (ds : Items) → joined_items ds no_items ≡ ds
items_end_joined no_items = refl
items_end_joined (item d ds) = ap (item d) (items_end_joined ds)

pub items_more : (s : Data) (ds : Items) (d t : Tree) (rest all made more : List Tree) → all ≡ d ∷ rest → more ≡ made ++ t ∷ [] → IsTree (data_of t) → data_of t ≡ filled_part filled (Some s) (data_of d) → FillsItems s ds all made → FillsItems s ds rest more
items_more s ds d t rest all made more is pushed tree here fills = record {
  trees = rw pushed (one_more_tree made t fills.trees tree);
  whole =
      ap (λ ts. joined_items (items_of ts) (filled_items filled (Some s) (items_of rest))) pushed ∙ item_joined made t (filled_items filled (Some s) (items_of rest))
      ∙ ap (λ e. joined_items (items_of made) (item e (filled_items filled (Some s) (items_of rest)))) here
      ∙ ap (λ ts. joined_items (items_of made) (filled_items filled (Some s) (items_of ts))) (sym is) ∙ fills.whole;
}

pub items_end : (s : Data) (ds : Items) (rest made : List Tree) → rest ≡ [] → FillsItems s ds rest made → items_of made ≡ filled_items filled (Some s) ds
items_end s ds rest made none fills =
    sym (items_end_joined (items_of made)) ∙ ap (λ ts. joined_items (items_of made) (filled_items filled (Some s) (items_of ts))) (sym none) ∙ fills.whole

-- ---- members

member_joined : (made : List Member) (m : Member) (ns : Members) → joined (members_of (made ++ m ∷ [])) ns ≡ joined (members_of made) (member m.name (data_of m.tree) ns)
member_joined [] m ns = refl
member_joined (x ∷ made) m ns = ap (member x.name (data_of x.tree)) (member_joined made m ns)

one_more_member : (made : List Member) (m : Member) → HasTrees (members_of made) → IsTree (data_of m.tree) → HasTrees (members_of (made ++ m ∷ []))
one_more_member [] m are is = (is, tt)
one_more_member (x ∷ made) m are is = (are.0, one_more_member made m are.1 is)

members_end_joined : (ms : Members) → joined ms no_members ≡ ms
members_end_joined no_members = refl
members_end_joined (member k d ms) = ap (member k d) (members_end_joined ms)

pub members_more : (s : Data) (ms : Members) (m n : Member) (rest all made more : List Member) → all ≡ m ∷ rest → more ≡ made ++ n ∷ [] → IsFilledMember s m n → FillsMembers s ms all made → FillsMembers s ms rest more
members_more s ms m n rest all made more is pushed here fills = record {
  sorted = fills.sorted;
  trees = rw pushed (one_more_member made n fills.trees here.tree);
  whole =
      ap (λ ts. joined (members_of ts) (filled_members filled (Some s) (members_of rest))) pushed ∙ member_joined made n (filled_members filled (Some s) (members_of rest))
      ∙ ap (λ k. joined (members_of made) (member k (data_of n.tree) (filled_members filled (Some s) (members_of rest)))) here.name
      ∙ ap (λ e. joined (members_of made) (member m.name e (filled_members filled (Some s) (members_of rest)))) here.filled
      ∙ ap (λ ts. joined (members_of made) (filled_members filled (Some s) (members_of ts))) (sym is) ∙ fills.whole;
}

pub members_end : (s : Data) (ms : Members) (rest made : List Member) → rest ≡ [] → FillsMembers s ms rest made → members_of made ≡ filled_members filled (Some s) ms
members_end s ms rest made none fills =
    sym (members_end_joined (members_of made)) ∙ ap (λ ts. joined (members_of made) (filled_members filled (Some s) (members_of ts))) (sym none) ∙ fills.whole

filled_before : (s : Data) (k : List ℕ) (ms : Members) → IsNameBefore k ms → IsNameBefore k (filled_members filled (Some s) ms)
filled_before s k no_members before = tt
filled_before s k (member l d ms) before = before

sorted_filled : (s : Data) (ms : Members) → AreMembers ms → HasTrees (filled_members filled (Some s) ms) → AreMembers (filled_members filled (Some s) ms)
sorted_filled s no_members sorted trees = tt
sorted_filled s (member k d ms) sorted trees = (trees.0, filled_before s k ms sorted.1, sorted_filled s ms sorted.2 trees.1)

pub members_sorted : (s : Data) (ms : Members) (rest made : List Member) → rest ≡ [] → FillsMembers s ms rest made → AreMembers (members_of made)
members_sorted s ms rest made none fills =
    let e = members_end s ms rest made none fills in
    subst AreMembers (sym e) (sorted_filled s ms fills.sorted (subst HasTrees e fills.trees))

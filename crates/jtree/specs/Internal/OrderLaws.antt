-- The laws of the tree order: it is total, and a tree ties with itself alone.
use Rattle.std.specs.Prelude.{◌≡◌, ℕ, List, [], ◌∷◌, Bool, true, false, refl}
use Rattle.std.proofs.Common.{sym, ap, subst, ◌∙◌}
use Rattle.std.specs.Cmp.{IsTotalOrder, IsPartialOrder, partial_order_from_total}
use Rattle.std.specs.Ordering.{nat_cmp, bool_cmp, nan_last_cmp, is_eq, as_partial_cmp, ordering_then}
use Rattle.std.specs.Str.{bytes_eq}
use Rattle.std.proofs.lemmas.Float.{nan_last}
use Rattle.std.proofs.lemmas.Map.Text.{is_eq-slice_cmp}
use Rattle.std.proofs.lemmas.Slice.Eq.{bytes_eq-Decides}
use Rattle.jtree.specs.NumberOrder.{number_value, number_cmp}
use Rattle.std.specs.declared.cmp.Ordering.{Ordering}
use Rattle.std.specs.declared.cmp.Ordering.TheVariants.{Less, Equal, Greater}
use Rattle.std.proofs.lemmas.Cmp.{ranked, int_ranked, nat_cmp_total, on_total, then_total, tied_itself}
use Rattle.jtree.specs.Data.{Data, null, boolean, integer, number, text, list, object, Items, no_items, item, Members, no_members, member}
use Rattle.jtree.specs.Nodes.{nodes}
use Rattle.jtree.specs.Order.{kind, text_cmp, rank_cmp, content_cmp, items_cmp, members_cmp, tree_cmp}
use Rattle.jtree.specs.OrderBy.{content_by, items_by, members_by}
use Rattle.jtree.specs.Internal.OrderByLaws.{IsRanked, by_total}
pub use Rattle.jtree.specs.Internal.OrderByLaws.{text_total, name_total}

pub then_equal : (a b : Ordering) → ordering_then a b ≡ Equal → (a ≡ Equal) × (b ≡ Equal)
then_equal Less b p = cc
then_equal Equal b p = (refl, p)
then_equal Greater b p = cc

pub nat_tied : (x y : ℕ) → nat_cmp x y ≡ Equal → x ≡ y
nat_tied x y p = ranked x y Equal (sym p)

pub rank_tied : (u v : Data) → rank_cmp u v ≡ Equal → (nodes u ≡ nodes v) × (kind u ≡ kind v)
rank_tied u v p =
    let h = then_equal (nat_cmp (nodes u) (nodes v)) (nat_cmp (kind u) (kind v)) p in
    (nat_tied (nodes u) (nodes v) h.0, nat_tied (kind u) (kind v) h.1)

pub rank_total : IsTotalOrder rank_cmp
rank_total = then_total (on_total nodes nat_cmp_total) (on_total kind nat_cmp_total)

pub text_same : (a b : List ℕ) → text_cmp a b ≡ Equal → a ≡ b
text_same [] [] p = refl
text_same (x ∷ xs) (y ∷ ys) p =
    let h = then_equal (nat_cmp x y) (text_cmp xs ys) p in
    let e : x ≡ y = nat_tied x y h.0 in
    let r : xs ≡ ys = text_same xs ys h.1 in
    cc
text_same _ _ p = cc

pub number_total : IsTotalOrder number_cmp
number_total = then_total (on_total number_value nan_last) text_total

pub number_same : (a b : List ℕ) → number_cmp a b ≡ Equal → a ≡ b
number_same a b p = text_same a b (then_equal (nan_last_cmp (number_value a) (number_value b)) (text_cmp a b) p).1

not_tied : (o p : Ordering) → is_eq p ≡ false → is_eq (ordering_then o p) ≡ false
not_tied Equal p h = h
not_tied _ p h = refl

ties_by : (a b : List ℕ) (t : Bool) → bytes_eq a b ≡ t → is_eq (number_cmp a b) ≡ t
ties_by a b true is =
    let same : a ≡ b = (bytes_eq-Decides a b).0 is in
    ap (λ c. is_eq (number_cmp a c)) (sym same) ∙ ap is_eq (tied_itself number_total a)
ties_by a b false is = not_tied (nan_last_cmp (number_value a) (number_value b)) (text_cmp a b) (is_eq-slice_cmp a b ∙ is)

-- numbers tie exactly where they have the same text
pub number_ties : (a b : List ℕ) → is_eq (number_cmp a b) ≡ bytes_eq a b
number_ties a b = ties_by a b (bytes_eq a b) refl

pub number_tied : (a b : List ℕ) → bytes_eq a b ≡ is_eq (number_cmp a b)
number_tied a b = sym (number_ties a b)

pub number_po : IsPartialOrder bytes_eq (as_partial_cmp number_cmp)
number_po = subst (λ e. IsPartialOrder e (as_partial_cmp number_cmp)) (λ i a b. number_ties a b i) (partial_order_from_total number_total)

bool_same : (a b : Bool) → bool_cmp a b ≡ Equal → a ≡ b
bool_same true true p = refl
bool_same false false p = refl
bool_same _ _ p = cc

-- ---- the tree order as one by two others

tree_ranked : IsRanked rank_cmp number_cmp
tree_ranked = record { rank = rank_total; kinds = λ u v p. (rank_tied u v p).1; numbers = number_total }

mutual
  content_is_by : (u v : Data) → content_by rank_cmp number_cmp u v ≡ content_cmp u v
  content_is_by (list ds) (list es) = items_are_by ds es
  content_is_by (object ms) (object ns) = members_are_by ms ns
  content_is_by (boolean a) (boolean b) = refl
  content_is_by (integer a) (integer b) = refl
  content_is_by (number a) (number b) = refl
  content_is_by (text a) (text b) = refl
  content_is_by _ _ = refl

  items_are_by : (ds es : Items) → items_by rank_cmp number_cmp ds es ≡ items_cmp ds es
  items_are_by no_items no_items = refl
  items_are_by no_items (item e es) = refl
  items_are_by (item d ds) no_items = refl
  items_are_by (item d ds) (item e es) = λ i. ordering_then (ordering_then (rank_cmp d e) (content_is_by d e i)) (items_are_by ds es i)

  members_are_by : (ms ns : Members) → members_by rank_cmp number_cmp ms ns ≡ members_cmp ms ns
  members_are_by no_members no_members = refl
  members_are_by no_members (member l e ns) = refl
  members_are_by (member k d ms) no_members = refl
  members_are_by (member k d ms) (member l e ns) =
      λ i. ordering_then (text_cmp l k) (ordering_then (ordering_then (rank_cmp d e) (content_is_by d e i)) (members_are_by ms ns i))

pub tree_total : IsTotalOrder tree_cmp
tree_total = subst IsTotalOrder (λ i u v. ordering_then (rank_cmp u v) (content_is_by u v i)) (by_total rank_cmp number_cmp tree_ranked)

-- ---- what ties

ranked_same : (u v : Data) → (kind u ≡ kind v → content_cmp u v ≡ Equal → u ≡ v) → tree_cmp u v ≡ Equal → u ≡ v
ranked_same u v h p =
    let q = then_equal (rank_cmp u v) (content_cmp u v) p in
    h (rank_tied u v q.0).1 q.1

mutual
  content_same : (u v : Data) → kind u ≡ kind v → content_cmp u v ≡ Equal → u ≡ v
  content_same null null p q = refl
  content_same (boolean a) (boolean b) p q = ap boolean (bool_same a b q)
  content_same (integer a) (integer b) p q = ap integer (int_ranked a b Equal (sym q))
  content_same (number a) (number b) p q = ap number (number_same a b q)
  content_same (text a) (text b) p q = ap text (text_same a b q)
  content_same (list ds) (list es) p q = ap list (items_same ds es q)
  content_same (object ms) (object ns) p q = ap object (members_same ms ns q)
  content_same u v p q = cc

  pub items_same : (ds es : Items) → items_cmp ds es ≡ Equal → ds ≡ es
  items_same no_items no_items p = refl
  items_same (item d ds) (item e es) p =
      let h = then_equal (tree_cmp d e) (items_cmp ds es) p in
      let q : d ≡ e = ranked_same d e (content_same d e) h.0 in
      let r : ds ≡ es = items_same ds es h.1 in
      λ i. item (q i) (r i)
  items_same _ _ p = cc

  pub members_same : (ms ns : Members) → members_cmp ms ns ≡ Equal → ms ≡ ns
  members_same no_members no_members p = refl
  members_same (member k d ms) (member l e ns) p =
      let h = then_equal (text_cmp l k) (ordering_then (tree_cmp d e) (members_cmp ms ns)) p in
      let j = then_equal (tree_cmp d e) (members_cmp ms ns) h.1 in
      let o : l ≡ k = text_same l k h.0 in
      let q : d ≡ e = ranked_same d e (content_same d e) j.0 in
      let r : ms ≡ ns = members_same ms ns j.1 in
      λ i. member (sym o i) (q i) (r i)
  members_same _ _ p = cc

pub tree_same : (u v : Data) → tree_cmp u v ≡ Equal → u ≡ v
tree_same u v = ranked_same u v (content_same u v)

-- The orders by an equality are total, and trees tie where they count as the same.
use Rattle.std.specs.Prelude.{◌≡◌, ℕ, List, Bool, true, false, ◌&&◌, refl}
use Rattle.std.proofs.Common.{sym, ap, ◌∙◌}
use Rattle.std.specs.Cmp.{IsTotalOrder, nat_cmp_is}
use Rattle.std.specs.Ordering.{is_eq, ordering_then, ordering_reverse}
use Rattle.std.specs.Str.{bytes_eq}
use Rattle.std.specs.declared.cmp.Ordering.{Ordering}
use Rattle.std.specs.declared.cmp.Ordering.TheVariants.{Less, Equal, Greater}
use Rattle.std.proofs.lemmas.Cmp.{nat_cmp_total, on_total, nat_list_eq_equiv, tied_itself}
use Rattle.std.proofs.lemmas.Float.{nan_last}
use Rattle.std.proofs.lemmas.Map.Text.{is_eq-slice_cmp}
use Rattle.jtree.specs.Data.{Data, null, boolean, integer, number, text, list, object, Items, no_items, item, Members, no_members, member}
use Rattle.jtree.specs.NumberOrder.{number_value, value_cmp}
use Rattle.jtree.specs.Order.{kind, text_cmp, rank_cmp, content_cmp, tree_cmp}
use Rattle.jtree.specs.OrderBy.{content_by, items_by, members_by}
use Rattle.jtree.specs.SameValue.{same_value, same_values, same_members}
use Rattle.jtree.specs.Equality.{equal_by, kind_cmp, value_order, order_by, keyed_cmp}
use Rattle.jtree.specs.Internal.OrderByLaws.{IsRanked, by_total}
use Rattle.jtree.specs.Internal.OrderLaws.{then_equal, nat_tied, rank_tied, tree_total}
use Rattle.jtree.specs.declared.equality.Equality.{Equality}
use Rattle.jtree.specs.declared.equality.Equality.TheVariants.{Exact, ByValue}

value_ranked : IsRanked kind_cmp value_cmp
value_ranked = record { rank = on_total kind nat_cmp_total; kinds = λ u v p. nat_tied (kind u) (kind v) p; numbers = on_total number_value nan_last }

pub order_total : (e : Equality) → IsTotalOrder (order_by e)
order_total Exact = tree_total
order_total ByValue = by_total kind_cmp value_cmp value_ranked

turned : (e f : Equality) (u v : Data) → keyed_cmp (e, u) (f, v) ≡ ordering_reverse (keyed_cmp (f, v) (e, u))
turned Exact Exact u v = (order_total Exact).antisymm u v
turned Exact ByValue u v = refl
turned ByValue Exact u v = refl
turned ByValue ByValue u v = (order_total ByValue).antisymm u v

goes_on : (e f g : Equality) (u v w : Data) → keyed_cmp (e, u) (f, v) ≡ Less → keyed_cmp (f, v) (g, w) ≡ Less → keyed_cmp (e, u) (g, w) ≡ Less
goes_on Exact Exact Exact u v w p q = (order_total Exact).trans u v w p q
goes_on Exact f ByValue u v w p q = refl
goes_on Exact ByValue Exact u v w p q = cc
goes_on ByValue Exact g u v w p q = cc
goes_on ByValue ByValue Exact u v w p q = cc
goes_on ByValue ByValue ByValue u v w p q = (order_total ByValue).trans u v w p q

as_well : (e f g : Equality) (u v w : Data) → keyed_cmp (e, u) (f, v) ≡ Equal → keyed_cmp (e, u) (g, w) ≡ keyed_cmp (f, v) (g, w)
as_well Exact Exact Exact u v w p = (order_total Exact).congr u v w p
as_well Exact Exact ByValue u v w p = refl
as_well Exact ByValue g u v w p = cc
as_well ByValue Exact g u v w p = cc
as_well ByValue ByValue Exact u v w p = refl
as_well ByValue ByValue ByValue u v w p = (order_total ByValue).congr u v w p

pub keyed_total : IsTotalOrder keyed_cmp
keyed_total = record {
  antisymm = λ k l. turned k.0 l.0 k.1 l.1;
  trans = λ k l m. goes_on k.0 l.0 m.0 k.1 l.1 m.1;
  congr = λ k l m. as_well k.0 l.0 m.0 k.1 l.1 m.1;
}

-- ---- what ties

not_equal : (o : Ordering) → (o ≡ Equal → ⊥) → is_eq o ≡ false
not_equal Less h = refl
not_equal Equal h = absurd (h refl)
not_equal Greater h = refl

both_equal : (a b : Ordering) → is_eq (ordering_then a b) ≡ (is_eq a && is_eq b)
both_equal Less b = refl
both_equal Equal b = refl
both_equal Greater b = refl

all_three : (a b c : Bool) → (a && (b && c)) ≡ ((a && b) && c)
all_three true b c = refl
all_three false b c = refl

one_name : (k l : List ℕ) → is_eq (text_cmp l k) ≡ bytes_eq k l
one_name k l = is_eq-slice_cmp l k ∙ nat_list_eq_equiv.symm l k

other_kinds : (u v : Data) → (kind u ≡ kind v → ⊥) → same_value u v ≡ is_eq (tree_cmp u v)
other_kinds (number a) (number b) h = absurd (h refl)
other_kinds (number a) _ h = refl
other_kinds (list ds) (list es) h = absurd (h refl)
other_kinds (list ds) _ h = refl
other_kinds (object ms) (object ns) h = absurd (h refl)
other_kinds (object ms) _ h = refl
other_kinds _ v h = refl

unlike_kinds : (u v : Data) → (kind u ≡ kind v → ⊥) → same_value u v ≡ false
unlike_kinds u v h = other_kinds u v h ∙ not_equal (tree_cmp u v) (λ p. h (rank_tied u v (then_equal (rank_cmp u v) (content_cmp u v) p).0).1)

by_kind_at : (u v : Data) (o : Ordering) → kind_cmp u v ≡ o → (kind u ≡ kind v → is_eq (content_by kind_cmp value_cmp u v) ≡ same_value u v)
    → is_eq (value_order u v) ≡ same_value u v
by_kind_at u v Equal p h = ap (λ o. is_eq (ordering_then o (content_by kind_cmp value_cmp u v))) p ∙ h (nat_tied (kind u) (kind v) p)
by_kind_at u v Less p h = ap (λ o. is_eq (ordering_then o (content_by kind_cmp value_cmp u v))) p
    ∙ sym (unlike_kinds u v (λ q. let r : Equal ≡ Less = nat_cmp_is (kind u) (kind v) Equal q ∙ p in cc))
by_kind_at u v Greater p h = ap (λ o. is_eq (ordering_then o (content_by kind_cmp value_cmp u v))) p
    ∙ sym (unlike_kinds u v (λ q. let r : Equal ≡ Greater = nat_cmp_is (kind u) (kind v) Equal q ∙ p in cc))

by_kind : (u v : Data) → (kind u ≡ kind v → is_eq (content_by kind_cmp value_cmp u v) ≡ same_value u v) → is_eq (value_order u v) ≡ same_value u v
by_kind u v h = by_kind_at u v (kind_cmp u v) refl h

mutual
  content_ties : (u v : Data) → kind u ≡ kind v → is_eq (content_by kind_cmp value_cmp u v) ≡ same_value u v
  content_ties null null p = refl
  content_ties (boolean a) (boolean b) p = refl
  content_ties (integer a) (integer b) p = refl
  content_ties (number a) (number b) p = refl
  content_ties (text a) (text b) p = refl
  content_ties (list ds) (list es) p = items_tie ds es
  content_ties (object ms) (object ns) p = members_tie ms ns
  content_ties u v p = cc

  items_tie : (ds es : Items) → is_eq (items_by kind_cmp value_cmp ds es) ≡ same_values ds es
  items_tie no_items no_items = refl
  items_tie no_items (item e es) = refl
  items_tie (item d ds) no_items = refl
  items_tie (item d ds) (item e es) = both_equal (value_order d e) (items_by kind_cmp value_cmp ds es)
      ∙ (λ i. by_kind d e (content_ties d e) i && items_tie ds es i)

  members_tie : (ms ns : Members) → is_eq (members_by kind_cmp value_cmp ms ns) ≡ same_members ms ns
  members_tie no_members no_members = refl
  members_tie no_members (member l e ns) = refl
  members_tie (member k d ms) no_members = refl
  members_tie (member k d ms) (member l e ns) =
      let rest = members_by kind_cmp value_cmp ms ns in
      both_equal (text_cmp l k) (ordering_then (value_order d e) rest) ∙ ap (λ b. is_eq (text_cmp l k) && b) (both_equal (value_order d e) rest)
      ∙ all_three (is_eq (text_cmp l k)) (is_eq (value_order d e)) (is_eq rest)
      ∙ (λ i. (one_name k l i && by_kind d e (content_ties d e) i) && members_tie ms ns i)

-- trees tie exactly where they count as the same
pub order_ties : (e : Equality) (u v : Data) → is_eq (order_by e u v) ≡ equal_by e u v
order_ties Exact u v = refl
order_ties ByValue u v = by_kind u v (content_ties u v)

-- keys that are compared by the same are in its order, and so tie where their trees count as the same
pub keyed_same : (e : Equality) (u v : Data) → order_by e u v ≡ keyed_cmp (e, u) (e, v)
keyed_same Exact u v = refl
keyed_same ByValue u v = refl

pub keyed_ties : (e : Equality) (u v : Data) → equal_by e u v ≡ is_eq (keyed_cmp (e, u) (e, v))
keyed_ties e u v = sym (order_ties e u v) ∙ ap is_eq (keyed_same e u v)

pub equal_itself : (e : Equality) (v : Data) → equal_by e v v ≡ true
equal_itself e v = sym (order_ties e v v) ∙ ap is_eq (tied_itself (order_total e) v)

-- Items that are alike tie in the order of what distinguishes items, so items that ascend are apart.
use Rattle.std.specs.Prelude.{◌≡◌, ℕ, List, [], ◌∷◌, map, true, false, Option, Some, None, option_map, not, ◌&&◌}
use Rattle.std.proofs.Common.{refl, sym, ap, ◌∙◌}
use Rattle.std.specs.Cmp.{IsTotalOrder, on_total}
use Rattle.std.specs.Cmp.Lexicographic.{lists_total, options_total}
use Rattle.std.specs.Option.{option_cmp}
use Rattle.std.specs.Ordering.{is_eq, is_lt, ordering_then}
use Rattle.std.specs.declared.cmp.Ordering.{Ordering}
use Rattle.std.specs.declared.cmp.Ordering.TheVariants.{Less, Equal, Greater}
use Rattle.std.proofs.Math.Bool.{and-true}
use Rattle.std.proofs.lemmas.Bool.{and_parts, and_from, or_from}
use Rattle.jtree.specs.Data.{Data, Items, no_items, item, Members}
use Rattle.jtree.specs.Data as tree
use Rattle.jtree.specs.Equality.{equal_by, keyed_cmp}
use Rattle.jtree.specs.Path.{member_at}
use Rattle.jtree.specs.Internal.EqualityLaws.{keyed_total, keyed_ties}
use Rattle.jtree.specs.declared.equality.Equality.{Equality}
use Rattle.schema.specs.Rules.Keywords.{any_item}
use Rattle.schema.specs.declared.node.ListType.{ListType}
use Rattle.schema.specs.declared.node.ListType.TheVariants.{Atomic, Set, Map}
use Rattle.stored.specs.Objects.Fault.{agree_at, agree, are_alike}
use Rattle.stored.specs.Objects.StoredByParts.{are_apart}
use Rattle.stored.specs.Internal.ItemKeys.{ItemKey, value_at, item_key, values_cmp, item_cmp, has_key, passes, is_before_first, ascend, are_ordered}

-- ---- items that are alike

item_total : (type : ListType) (keys : List (List ℕ)) → IsTotalOrder (item_cmp type keys)
item_total type keys = on_total (item_key type keys) (options_total (lists_total (options_total keyed_total)))

both_equal : (a b : Ordering) → (is_eq a && is_eq b) ≡ is_eq (ordering_then a b)
both_equal Less b = refl
both_equal Equal b = refl
both_equal Greater b = refl

equal_then : (e : Equality) (v w : Data) (b : Ordering) → (equal_by e v w && is_eq b) ≡ is_eq (ordering_then (keyed_cmp (e, v) (e, w)) b)
equal_then e v w b = ap (λ c. c && is_eq b) (keyed_ties e v w) ∙ both_equal (keyed_cmp (e, v) (e, w)) b

values_agree : (e : Equality) (o p : Option Data) (b : Ordering)
    → (agree_at e o p && is_eq b) ≡ is_eq (ordering_then (option_cmp keyed_cmp (option_map (λ d. (e, d)) o) (option_map (λ d. (e, d)) p)) b)
values_agree e None None b = refl
values_agree e None (Some w) b = refl
values_agree e (Some v) None b = refl
values_agree e (Some v) (Some w) b = equal_then e v w b

agree_by_key : (e : Equality) (keys : List (List ℕ)) (ms ns : Members) → agree e keys ms ns ≡ is_eq (values_cmp (map (value_at e ms) keys) (map (value_at e ns) keys))
agree_by_key e [] ms ns = refl
agree_by_key e (k ∷ keys) ms ns = ap (λ b. agree_at e (member_at k ms) (member_at k ns) && b) (agree_by_key e keys ms ns)
    ∙ values_agree e (member_at k ms) (member_at k ns) (values_cmp (map (value_at e ms) keys) (map (value_at e ns) keys))

no_key : (o : Option ItemKey) → false ≡ passes (has_key None) o
no_key None = refl
no_key (Some k) = refl

-- two items are alike where they have the same key
pub alike_by_key : (type : ListType) (keys : List (List ℕ)) (v w : Data) → are_alike type keys v w ≡ passes (has_key (item_key type keys v)) (item_key type keys w)
alike_by_key (Set e) keys v w = sym (and-true (equal_by e v w)) ∙ equal_then e v w Equal
alike_by_key (Map e) keys (tree.object ms) (tree.object ns) = agree_by_key e keys ms ns
alike_by_key (Map e) keys (tree.object ms) _ = refl
alike_by_key (Map e) keys _ w = no_key (item_key (Map e) keys w)
alike_by_key Atomic keys v w = refl

less_other : (o p : Option ItemKey) → option_cmp values_cmp o p ≡ Less → passes (has_key o) p ≡ false
less_other None p h = sym (no_key p)
less_other (Some k) None h = refl
less_other (Some k) (Some l) h = ap is_eq h

less_unlike : (type : ListType) (keys : List (List ℕ)) (v w : Data) → item_cmp type keys v w ≡ Less → are_alike type keys v w ≡ false
less_unlike type keys v w h = alike_by_key type keys v w ∙ less_other (item_key type keys v) (item_key type keys w) h

-- ---- items that ascend

pub less_from : (o : Ordering) → is_lt o ≡ true → o ≡ Less
less_from Less h = refl
less_from Equal h = cc
less_from Greater h = cc

before_next : (type : ListType) (keys : List (List ℕ)) (d e : Data) (es : Items) → item_cmp type keys d e ≡ Less → is_before_first (item_cmp type keys) e es ≡ true → is_before_first (item_cmp type keys) d es ≡ true
before_next type keys d e no_items before h = refl
before_next type keys d e (item f fs) before h = ap is_lt ((item_total type keys).trans d e f before (less_from (item_cmp type keys e f) h))

before_all : (type : ListType) (keys : List (List ℕ)) (d : Data) (ds : Items) → is_before_first (item_cmp type keys) d ds ≡ true → ascend (item_cmp type keys) ds ≡ true → any_item (are_alike type keys d) ds ≡ false
before_all type keys d no_items before h = refl
before_all type keys d (item e es) before h =
    let both = and_parts _ _ h in
    let less = less_from (item_cmp type keys d e) before in
    or_from _ _ (less_unlike type keys d e less) (before_all type keys d es (before_next type keys d e es less both.0) both.1)

ascend_apart : (type : ListType) (keys : List (List ℕ)) (ds : Items) → ascend (item_cmp type keys) ds ≡ true → are_apart (are_alike type keys) ds ≡ true
ascend_apart type keys no_items h = refl
ascend_apart type keys (item d ds) h = let both = and_parts _ _ h in and_from _ _ (ap not (before_all type keys d ds both.0 both.1)) (ascend_apart type keys ds both.1)

none_alike : (keys : List (List ℕ)) (d : Data) (ds : Items) → any_item (are_alike Atomic keys d) ds ≡ false
none_alike keys d no_items = refl
none_alike keys d (item e es) = none_alike keys d es

all_apart : (keys : List (List ℕ)) (ds : Items) → are_apart (are_alike Atomic keys) ds ≡ true
all_apart keys no_items = refl
all_apart keys (item d ds) = and_from _ _ (ap not (none_alike keys d ds)) (all_apart keys ds)

pub ordered_apart : (type : ListType) (keys : List (List ℕ)) (ds : Items) → are_ordered type keys ds ≡ true → are_apart (are_alike type keys) ds ≡ true
ordered_apart Atomic keys ds h = all_apart keys ds
ordered_apart (Set e) keys ds h = ascend_apart (Set e) keys ds h
ordered_apart (Map e) keys ds h = ascend_apart (Map e) keys ds h

-- How the comparison of two lists of parts continues by one part, and how it ends.
use Rattle.std.proofs.Common.{◌≡◌, ◌<◌, ◌+◌, ℕ, suc, min, List, [], ◌∷◌, length, drop, get_or, true, false, refl, sym, ap, ◌∙◌, arith}
use Rattle.std.proofs.lemmas.List.{at_drop_more, length-drop}
use Rattle.std.specs.Cmp.{nat_cmp_is}
use Rattle.std.proofs.lemmas.Cmp.{tied_itself, nat_list_eq_equiv}
use Rattle.std.proofs.lemmas.Map.Text.{is_eq-slice_cmp}
use Rattle.std.specs.Str.{bytes_eq}
use Rattle.std.specs.Ordering.{is_eq, nat_cmp, ordering_then}
use Rattle.std.specs.declared.cmp.Ordering.{Ordering}
use Rattle.std.specs.declared.cmp.Ordering.TheVariants.{Less, Equal, Greater}
use Rattle.jtree.specs.Data.{Data, list, object, Items, item, Members, member}
use Rattle.jtree.specs.View.{data_of, items_of, members_of}
use Rattle.jtree.specs.Order.{text_cmp, rank_cmp, items_cmp, members_cmp, tree_cmp}
use Rattle.jtree.specs.Internal.OrderLaws.{rank_total, items_same, members_same}
use Rattle.jtree.specs.declared.value.Tree.{Tree}
use Rattle.jtree.specs.declared.value.Member.{Member}

pub then_assoc : (a b c : Ordering) → ordering_then (ordering_then a b) c ≡ ordering_then a (ordering_then b c)
then_assoc Equal b c = refl
then_assoc _ b c = refl

-- a step, and what follows it, in the place of both
pub order_goes_on : (found step rest both next whole : Ordering) → next ≡ ordering_then found step → both ≡ ordering_then step rest
    → ordering_then found both ≡ whole → ordering_then next rest ≡ whole
order_goes_on found step rest both next whole p q r =
    ap (λ o. ordering_then o rest) p ∙ then_assoc found step rest ∙ ap (ordering_then found) (sym q) ∙ r

-- a count that is capped, in the place of the count
pub count_ends : (found rest counted most whole : ℕ) → counted ≡ min rest most → min (found + rest) most ≡ whole → min (found + counted) most ≡ whole
count_ends found rest counted most whole p q = omega arith

-- ---- the next part

pub items_step : (xs ys : List Tree) (i : ℕ) (x y : Tree) → i < length xs → i < length ys → x ≡ get_or xs i x → y ≡ get_or ys i y
    → items_cmp (items_of (drop i xs)) (items_of (drop i ys))
    ≡ ordering_then (tree_cmp (data_of x) (data_of y)) (items_cmp (items_of (drop (i + 1) xs)) (items_of (drop (i + 1) ys)))
items_step xs ys i x y h k p q =
    let e : items_of (drop i xs) ≡ item (data_of x) (items_of (drop (i + 1) xs))
    = at_drop_more items_of xs i x h ∙ ap (λ z. item (data_of z) (items_of (drop (i + 1) xs))) (sym p) in
    let f : items_of (drop i ys) ≡ item (data_of y) (items_of (drop (i + 1) ys))
    = at_drop_more items_of ys i y k ∙ ap (λ z. item (data_of z) (items_of (drop (i + 1) ys))) (sym q) in
    rw (e, f)

pub members_step : (xs ys : List Member) (i : ℕ) (x y : Member) → i < length xs → i < length ys → x ≡ get_or xs i x → y ≡ get_or ys i y
    → members_cmp (members_of (drop i xs)) (members_of (drop i ys))
    ≡ ordering_then (ordering_then (text_cmp y.name x.name) (tree_cmp (data_of x.tree) (data_of y.tree)))
    (members_cmp (members_of (drop (i + 1) xs)) (members_of (drop (i + 1) ys)))
members_step xs ys i x y h k p q =
    let e : members_of (drop i xs) ≡ member x.name (data_of x.tree) (members_of (drop (i + 1) xs))
    = at_drop_more members_of xs i x h ∙ ap (λ z. member z.name (data_of z.tree) (members_of (drop (i + 1) xs))) (sym p) in
    let f : members_of (drop i ys) ≡ member y.name (data_of y.tree) (members_of (drop (i + 1) ys))
    = at_drop_more members_of ys i y k ∙ ap (λ z. member z.name (data_of z.tree) (members_of (drop (i + 1) ys))) (sym q) in
    rw (e, f) (sym (then_assoc (text_cmp y.name x.name) (tree_cmp (data_of x.tree) (data_of y.tree))
    (members_cmp (members_of (drop (i + 1) xs)) (members_of (drop (i + 1) ys)))))

-- ---- the end of the shorter one

items_ended : (xs ys : List Tree) (i m n : ℕ) → i ≡ min m n → length xs + i ≡ m → length ys + i ≡ n
    → nat_cmp m n ≡ items_cmp (items_of xs) (items_of ys)
items_ended [] [] i m n p q r = sym (nat_cmp_is m n Equal (omega arith))
items_ended [] (y ∷ ys) i m n p q r = sym (nat_cmp_is m n Less (omega arith))
items_ended (x ∷ xs) [] i m n p q r = sym (nat_cmp_is m n Greater (omega arith))
items_ended (x ∷ xs) (y ∷ ys) i m n p q r = absurd (omega arith)

pub items_end : (xs ys : List Tree) (i : ℕ) → i ≡ min (length xs) (length ys)
    → nat_cmp (length xs) (length ys) ≡ items_cmp (items_of (drop i xs)) (items_of (drop i ys))
items_end xs ys i p = items_ended (drop i xs) (drop i ys) i (length xs) (length ys) p
    (omega (arith, length-drop i xs)) (omega (arith, length-drop i ys))

members_ended : (xs ys : List Member) (i m n : ℕ) → i ≡ min m n → length xs + i ≡ m → length ys + i ≡ n
    → nat_cmp m n ≡ members_cmp (members_of xs) (members_of ys)
members_ended [] [] i m n p q r = sym (nat_cmp_is m n Equal (omega arith))
members_ended [] (y ∷ ys) i m n p q r = sym (nat_cmp_is m n Less (omega arith))
members_ended (x ∷ xs) [] i m n p q r = sym (nat_cmp_is m n Greater (omega arith))
members_ended (x ∷ xs) (y ∷ ys) i m n p q r = absurd (omega arith)

pub members_end : (xs ys : List Member) (i : ℕ) → i ≡ min (length xs) (length ys)
    → nat_cmp (length xs) (length ys) ≡ members_cmp (members_of (drop i xs)) (members_of (drop i ys))
members_end xs ys i p = members_ended (drop i xs) (drop i ys) i (length xs) (length ys) p
    (omega (arith, length-drop i xs)) (omega (arith, length-drop i ys))

-- ---- whether all is the same

pub then_false : (a b : Ordering) → false ≡ is_eq b → false ≡ is_eq (ordering_then a b)
then_false Equal b h = h
then_false _ b h = refl

pub then_first : (a b : Ordering) → false ≡ is_eq a → false ≡ is_eq (ordering_then a b)
then_first Equal b h = cc
then_first _ b h = refl

pub then_tied : (a b : Ordering) → true ≡ is_eq a → is_eq (ordering_then a b) ≡ is_eq b
then_tied Equal b h = refl
then_tied _ b h = cc

pub unlike_items : (xs ys : List Tree) → (length xs ≡ length ys → ⊥) → false ≡ is_eq (items_cmp (items_of xs) (items_of ys))
unlike_items [] [] h = absurd (h refl)
unlike_items [] (y ∷ ys) h = refl
unlike_items (x ∷ xs) [] h = refl
unlike_items (x ∷ xs) (y ∷ ys) h = then_false (tree_cmp (data_of x) (data_of y)) (items_cmp (items_of xs) (items_of ys))
    (unlike_items xs ys (λ (e : length xs ≡ length ys). h (ap suc e)))

pub unlike_members : (xs ys : List Member) → (length xs ≡ length ys → ⊥) → false ≡ is_eq (members_cmp (members_of xs) (members_of ys))
unlike_members [] [] h = absurd (h refl)
unlike_members [] (y ∷ ys) h = refl
unlike_members (x ∷ xs) [] h = refl
unlike_members (x ∷ xs) (y ∷ ys) h =
    then_false (text_cmp y.name x.name) (ordering_then (tree_cmp (data_of x.tree) (data_of y.tree)) (members_cmp (members_of xs) (members_of ys)))
    (then_false (tree_cmp (data_of x.tree) (data_of y.tree)) (members_cmp (members_of xs) (members_of ys))
    (unlike_members xs ys (λ (e : length xs ≡ length ys). h (ap suc e))))

-- counts of nodes and kinds tie where the contents do
whole : (r o : Ordering) → (o ≡ Equal → r ≡ Equal) → is_eq o ≡ is_eq (ordering_then r o)
whole Less Equal h = absurd (let e : Less ≡ Equal = h refl in cc)
whole Greater Equal h = absurd (let e : Greater ≡ Equal = h refl in cc)
whole _ _ h = refl

rank_itself : (u v : Data) → u ≡ v → rank_cmp u v ≡ Equal
rank_itself u v e = ap (λ w. rank_cmp u w) (sym e) ∙ tied_itself rank_total u

pub lists_whole : (ds es : Items) → is_eq (items_cmp ds es) ≡ is_eq (tree_cmp (list ds) (list es))
lists_whole ds es = whole (rank_cmp (list ds) (list es)) (items_cmp ds es)
    (λ (p : items_cmp ds es ≡ Equal). rank_itself (list ds) (list es) (ap list (items_same ds es p)))

pub objects_whole : (ms ns : Members) → is_eq (members_cmp ms ns) ≡ is_eq (tree_cmp (object ms) (object ns))
objects_whole ms ns = whole (rank_cmp (object ms) (object ns)) (members_cmp ms ns)
    (λ (p : members_cmp ms ns ≡ Equal). rank_itself (object ms) (object ns) (ap object (members_same ms ns p)))

pub same_name : (k l : List ℕ) → bytes_eq k l ≡ is_eq (text_cmp l k)
same_name k l = nat_list_eq_equiv.symm k l ∙ sym (is_eq-slice_cmp l k)

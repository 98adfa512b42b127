-- The comparison by the values of numbers: of trees that are not two numbers, lists or objects, and of the parts, one by one.
use Rattle.std.proofs.Common.{◌≡◌, ◌<◌, ◌+◌, ℕ, suc, List, [], ◌∷◌, length, drop, get_or, Bool, true, false, ◌&&◌, refl, sym, ap, ◌∙◌}
use Rattle.std.proofs.lemmas.List.{at_drop_more}
use Rattle.std.specs.Str.{bytes_eq}
use Rattle.jtree.specs.Data.{item, member}
use Rattle.std.specs.Ordering.{is_eq}
use Rattle.jtree.specs.Order.{tree_cmp}
use Rattle.jtree.specs.SameValue.{same_value, same_values, same_members}
use Rattle.jtree.specs.View.{data_of, items_of, members_of}
use Rattle.jtree.specs.declared.number.Number.{Number}
use Rattle.jtree.specs.declared.value.Items.{Items}
use Rattle.jtree.specs.declared.value.Members.{Members}
use Rattle.jtree.specs.declared.value.Tree.{Tree}
use Rattle.jtree.specs.declared.value.Tree.TheVariants as tree
use Rattle.jtree.specs.declared.value.Member.{Member}

-- ---- trees that are compared as by `==`

abbrev AsEqual : Tree → Tree → Type 0
AsEqual t u = is_eq (tree_cmp (data_of t) (data_of u)) ≡ same_value (data_of t) (data_of u)

pub one_number : (n : Number) (u : Tree) → ((m : Number) → u ≡ tree.Number m → ⊥) → AsEqual (tree.Number n) u
one_number n (tree.Number m) other = absurd (other m refl)
one_number n _ other = refl

pub one_list : (ds : Items) (u : Tree) → ((es : Items) → u ≡ tree.List es → ⊥) → AsEqual (tree.List ds) u
one_list ds (tree.List es) other = absurd (other es refl)
one_list ds _ other = refl

pub one_object : (ms : Members) (u : Tree) → ((ns : Members) → u ≡ tree.Object ns → ⊥) → AsEqual (tree.Object ms) u
one_object ms (tree.Object ns) other = absurd (other ns refl)
one_object ms _ other = refl

pub other_kinds : (t u : Tree) → ((n : Number) → t ≡ tree.Number n → ⊥) → ((ds : Items) → t ≡ tree.List ds → ⊥) → ((ms : Members) → t ≡ tree.Object ms → ⊥) → AsEqual t u
other_kinds (tree.Number n) u a b c = absurd (a n refl)
other_kinds (tree.List ds) u a b c = absurd (b ds refl)
other_kinds (tree.Object ms) u a b c = absurd (c ms refl)
other_kinds _ u a b c = refl

-- ---- parts

pub next_values : (xs ys : List Tree) (i : ℕ) (x y : Tree) → i < length xs → i < length ys → x ≡ get_or xs i x → y ≡ get_or ys i y
    → same_values (items_of (drop i xs)) (items_of (drop i ys)) ≡ same_value (data_of x) (data_of y) && same_values (items_of (drop (i + 1) xs)) (items_of (drop (i + 1) ys))
next_values xs ys i x y h k p q =
    let e = at_drop_more items_of xs i x h ∙ ap (λ z. item (data_of z) (items_of (drop (i + 1) xs))) (sym p) in
    let f = at_drop_more items_of ys i y k ∙ ap (λ z. item (data_of z) (items_of (drop (i + 1) ys))) (sym q) in
    rw (e, f) refl

pub next_members : (xs ys : List Member) (i : ℕ) (x y : Member) → i < length xs → i < length ys → x ≡ get_or xs i x → y ≡ get_or ys i y
    → same_members (members_of (drop i xs)) (members_of (drop i ys))
    ≡ (bytes_eq x.name y.name && same_value (data_of x.tree) (data_of y.tree)) && same_members (members_of (drop (i + 1) xs)) (members_of (drop (i + 1) ys))
next_members xs ys i x y h k p q =
    let e = at_drop_more members_of xs i x h ∙ ap (λ z. member z.name (data_of z.tree) (members_of (drop (i + 1) xs))) (sym p) in
    let f = at_drop_more members_of ys i y k ∙ ap (λ z. member z.name (data_of z.tree) (members_of (drop (i + 1) ys))) (sym q) in
    rw (e, f) refl

and_false : (b : Bool) → b && false ≡ false
and_false true = refl
and_false false = refl

pub unlike_values : (xs ys : List Tree) → (length xs ≡ length ys → ⊥) → same_values (items_of xs) (items_of ys) ≡ false
unlike_values [] [] h = absurd (h refl)
unlike_values [] (y ∷ ys) h = refl
unlike_values (x ∷ xs) [] h = refl
unlike_values (x ∷ xs) (y ∷ ys) h = ap (λ b. same_value (data_of x) (data_of y) && b) (unlike_values xs ys (λ e. h (ap suc e))) ∙ and_false _

pub unlike_members : (xs ys : List Member) → (length xs ≡ length ys → ⊥) → same_members (members_of xs) (members_of ys) ≡ false
unlike_members [] [] h = absurd (h refl)
unlike_members [] (y ∷ ys) h = refl
unlike_members (x ∷ xs) [] h = refl
unlike_members (x ∷ xs) (y ∷ ys) h =
    ap (λ b. (bytes_eq x.name y.name && same_value (data_of x.tree) (data_of y.tree)) && b) (unlike_members xs ys (λ e. h (ap suc e))) ∙ and_false _

-- Whether an item is like one of those before it, and whether one of the items is.
use Rattle.std.proofs.Common.{◌≡◌, ◌<◌, ◌≤◌, ◌+◌, ◌-◌, ℕ, zero, suc, List, length, drop, Bool, true, false, not, ◌||◌, Option, Some, None, refl, sym, ap, ◌∙◌, arith}
use Rattle.std.proofs.lemmas.List.{drop_more}
use Rattle.jtree.specs.Data.{Data, Items, no_items, item}
use Rattle.jtree.specs.View.{items_of}
use Rattle.jtree.specs.declared.value.Tree.{Tree}
use Rattle.jtree.specs.declared.value.Tree.TheVariants as tree
use Rattle.judge.specs.Keywords.{any_before, any_before_if, some_index}

no_earlier : (alike : Data → Data → Bool) (ds : Items) (w : Data) → any_before alike 0 ds w ≡ false
no_earlier alike no_items w = refl
no_earlier alike (item d ds) w = refl

-- none is before the first
pub none_before : (alike : Data → Data → Bool) (xs : List Tree) (w : Data) (n i : ℕ) → n ≤ i → any_before alike (n - i) (items_of (drop i xs)) w ≡ false
none_before alike xs w n i h = let zero_left : n - i ≡ 0 = omega (arith, h) in ap (λ k. any_before alike k (items_of (drop i xs)) w) zero_left ∙ no_earlier alike (items_of (drop i xs)) w

never : (alike : Data → Data → Bool) → ((v w : Data) → alike v w ≡ false) → (i : ℕ) (ds : Items) (w : Data) → any_before alike i ds w ≡ false
never alike h i no_items w = refl
never alike h zero (item d ds) w = refl
never alike h (suc i) (item d ds) w = let other = h d w in rw other (never alike h i ds w)

pub never_if : (alike : Data → Data → Bool) → ((v w : Data) → alike v w ≡ false) → (i : ℕ) (ds : Items) (o : Option Data) → any_before_if alike i ds o ≡ false
never_if alike h i ds None = refl
never_if alike h i ds (Some w) = never alike h i ds w

-- ---- one of the items, by its index

index_more : (test : ℕ → Bool) (xs : List Tree) (i : ℕ) → i < length xs → some_index test i (items_of (drop i xs)) ≡ (test i || some_index test (i + 1) (items_of (drop (i + 1) xs)))
index_more test xs i within =
    let next : suc i ≡ i + 1 = omega arith in
    ap (λ ys. some_index test i (items_of ys)) (drop_more xs i tree.Null within) ∙ ap (λ n. test i || some_index test n (items_of (drop (i + 1) xs))) next

pub one_found : (test : ℕ → Bool) (xs : List Tree) (i : ℕ) (all : Bool) → i < length xs → test i ≡ true → some_index test i (items_of (drop i xs)) ≡ all → false ≡ not all
one_found test xs i all within e h =
    let one : some_index test i (items_of (drop i xs)) ≡ true = index_more test xs i within ∙ ap (λ b. b || some_index test (i + 1) (items_of (drop (i + 1) xs))) e in ap not (sym one ∙ h)

pub next_index : (test : ℕ → Bool) (xs : List Tree) (i : ℕ) (all : Bool) → i < length xs → test i ≡ false → some_index test i (items_of (drop i xs)) ≡ all → some_index test (i + 1) (items_of (drop (i + 1) xs)) ≡ all
next_index test xs i all within e h =
    sym (index_more test xs i within ∙ ap (λ b. b || some_index test (i + 1) (items_of (drop (i + 1) xs))) e) ∙ h

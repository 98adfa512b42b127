-- How the comparison of two lists of parts by values ends.
use Rattle.std.proofs.Common.{◌≡◌, ◌+◌, ℕ, min, List, [], ◌∷◌, length, drop, sym, arith}
use Rattle.std.proofs.lemmas.List.{length-drop}
use Rattle.std.specs.Cmp.{nat_cmp_is}
use Rattle.std.specs.Ordering.{nat_cmp}
use Rattle.std.specs.declared.cmp.Ordering.{Ordering}
use Rattle.std.specs.declared.cmp.Ordering.TheVariants.{Less, Equal, Greater}
use Rattle.jtree.specs.Data.{Data}
use Rattle.jtree.specs.View.{items_of, members_of}
use Rattle.jtree.specs.OrderBy.{items_by, members_by}
use Rattle.jtree.specs.declared.value.Tree.{Tree}
use Rattle.jtree.specs.declared.value.Member.{Member}

items_ended : (R : Data → Data → Ordering) (N : List ℕ → List ℕ → Ordering) (xs ys : List Tree) (i m n : ℕ) → i ≡ min m n → length xs + i ≡ m → length ys + i ≡ n
    → nat_cmp m n ≡ items_by R N (items_of xs) (items_of ys)
items_ended R N [] [] i m n p q r = sym (nat_cmp_is m n Equal (omega arith))
items_ended R N [] (y ∷ ys) i m n p q r = sym (nat_cmp_is m n Less (omega arith))
items_ended R N (x ∷ xs) [] i m n p q r = sym (nat_cmp_is m n Greater (omega arith))
items_ended R N (x ∷ xs) (y ∷ ys) i m n p q r = absurd (omega arith)

pub items_end : (R : Data → Data → Ordering) (N : List ℕ → List ℕ → Ordering) (xs ys : List Tree) (i : ℕ) → i ≡ min (length xs) (length ys)
    → nat_cmp (length xs) (length ys) ≡ items_by R N (items_of (drop i xs)) (items_of (drop i ys))
items_end R N xs ys i p = items_ended R N (drop i xs) (drop i ys) i (length xs) (length ys) p
    (omega (arith, length-drop i xs)) (omega (arith, length-drop i ys))

members_ended : (R : Data → Data → Ordering) (N : List ℕ → List ℕ → Ordering) (xs ys : List Member) (i m n : ℕ) → i ≡ min m n → length xs + i ≡ m → length ys + i ≡ n
    → nat_cmp m n ≡ members_by R N (members_of xs) (members_of ys)
members_ended R N [] [] i m n p q r = sym (nat_cmp_is m n Equal (omega arith))
members_ended R N [] (y ∷ ys) i m n p q r = sym (nat_cmp_is m n Less (omega arith))
members_ended R N (x ∷ xs) [] i m n p q r = sym (nat_cmp_is m n Greater (omega arith))
members_ended R N (x ∷ xs) (y ∷ ys) i m n p q r = absurd (omega arith)

pub members_end : (R : Data → Data → Ordering) (N : List ℕ → List ℕ → Ordering) (xs ys : List Member) (i : ℕ) → i ≡ min (length xs) (length ys)
    → nat_cmp (length xs) (length ys) ≡ members_by R N (members_of (drop i xs)) (members_of (drop i ys))
members_end R N xs ys i p = members_ended R N (drop i xs) (drop i ys) i (length xs) (length ys) p
    (omega (arith, length-drop i xs)) (omega (arith, length-drop i ys))

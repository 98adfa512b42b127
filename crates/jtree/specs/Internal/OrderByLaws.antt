-- The order of trees that two others make is total.
use Rattle.std.specs.Prelude.{◌≡◌, ℕ, List, refl}
use Rattle.std.proofs.Common.{sym}
use Rattle.std.specs.Cmp.{IsTotalOrder, bool_cmp_total}
use Rattle.std.specs.Ordering.{ordering_then, ordering_reverse, flip_args}
use Rattle.std.specs.declared.cmp.Ordering.{Ordering}
use Rattle.std.specs.declared.cmp.Ordering.TheVariants.{Less, Equal, Greater}
use Rattle.std.proofs.lemmas.Cmp.{alike_right, int_cmp_total, back_total, nat_list_cmp_total}
use Rattle.jtree.specs.Data.{Data, null, boolean, integer, number, text, list, object, Items, no_items, item, Members, no_members, member}
use Rattle.jtree.specs.Order.{kind, text_cmp}
use Rattle.jtree.specs.OrderBy.{content_by, items_by, members_by, tree_by}

pub text_total : IsTotalOrder text_cmp
text_total = nat_list_cmp_total

-- names compared the other way round
pub name_total : IsTotalOrder (flip_args text_cmp)
name_total = back_total text_total

-- the two orders are total, and the one of whole trees ties only within a kind
pub record IsRanked (R : Data → Data → Ordering) (N : List ℕ → List ℕ → Ordering) : Type 0 where
  pub rank : IsTotalOrder R
  pub kinds : (u v : Data) → R u v ≡ Equal → kind u ≡ kind v
  pub numbers : IsTotalOrder N

-- ---- the other way round

then_turn : (a b c d : Ordering) → a ≡ ordering_reverse c → (a ≡ Equal → b ≡ ordering_reverse d)
    → ordering_then a b ≡ ordering_reverse (ordering_then c d)
then_turn Less b Greater d p q = refl
then_turn Equal b Equal d p q = q refl
then_turn Greater b Less d p q = refl
then_turn _ b _ d p q = cc

ranked_turn : (R : Data → Data → Ordering) (N : List ℕ → List ℕ → Ordering) → IsRanked R N → (u v : Data) → (kind u ≡ kind v → content_by R N u v ≡ ordering_reverse (content_by R N v u))
    → tree_by R N u v ≡ ordering_reverse (tree_by R N v u)
ranked_turn R N o u v h = then_turn (R u v) (content_by R N u v) (R v u) (content_by R N v u)
    (o.rank.antisymm u v) (λ (p : R u v ≡ Equal). h (o.kinds u v p))

mutual
  content_turn : (R : Data → Data → Ordering) (N : List ℕ → List ℕ → Ordering) → IsRanked R N → (u v : Data) → kind u ≡ kind v → content_by R N u v ≡ ordering_reverse (content_by R N v u)
  content_turn R N o null null p = refl
  content_turn R N o (boolean a) (boolean b) p = bool_cmp_total.antisymm a b
  content_turn R N o (integer a) (integer b) p = int_cmp_total.antisymm a b
  content_turn R N o (number a) (number b) p = o.numbers.antisymm a b
  content_turn R N o (text a) (text b) p = text_total.antisymm a b
  content_turn R N o (list ds) (list es) p = items_turn R N o ds es
  content_turn R N o (object ms) (object ns) p = members_turn R N o ms ns
  content_turn R N o u v p = cc

  items_turn : (R : Data → Data → Ordering) (N : List ℕ → List ℕ → Ordering) → IsRanked R N → (ds es : Items) → items_by R N ds es ≡ ordering_reverse (items_by R N es ds)
  items_turn R N o no_items no_items = refl
  items_turn R N o no_items (item e es) = refl
  items_turn R N o (item d ds) no_items = refl
  items_turn R N o (item d ds) (item e es) = then_turn (tree_by R N d e) (items_by R N ds es) (tree_by R N e d) (items_by R N es ds)
      (ranked_turn R N o d e (content_turn R N o d e)) (λ (p : tree_by R N d e ≡ Equal). items_turn R N o ds es)

  members_turn : (R : Data → Data → Ordering) (N : List ℕ → List ℕ → Ordering) → IsRanked R N → (ms ns : Members) → members_by R N ms ns ≡ ordering_reverse (members_by R N ns ms)
  members_turn R N o no_members no_members = refl
  members_turn R N o no_members (member l e ns) = refl
  members_turn R N o (member k d ms) no_members = refl
  members_turn R N o (member k d ms) (member l e ns) = then_turn (text_cmp l k) (ordering_then (tree_by R N d e) (members_by R N ms ns))
      (text_cmp k l) (ordering_then (tree_by R N e d) (members_by R N ns ms)) (name_total.antisymm k l)
      (λ (p : text_cmp l k ≡ Equal). then_turn (tree_by R N d e) (members_by R N ms ns) (tree_by R N e d) (members_by R N ns ms)
      (ranked_turn R N o d e (content_turn R N o d e)) (λ (q : tree_by R N d e ≡ Equal). members_turn R N o ms ns))

-- ---- transitivity: what an order answers at x and y, y and z, and x and z

pub record Chains (a b c : Ordering) : Type 0 where
  pub less : a ≡ Less → b ≡ Less → c ≡ Less
  pub left : a ≡ Equal → c ≡ b
  pub right : b ≡ Equal → c ≡ a

total_chains : {K : Type 0} {R : K → K → Ordering} → IsTotalOrder R → (x y z : K) → Chains (R x y) (R y z) (R x z)
total_chains o x y z = record { less = o.trans x y z; left = λ p. o.congr x y z p; right = λ p. sym (alike_right o y z x p) }

less_chains : (b : Ordering) → Chains Less b Less
less_chains b = record { less = λ p q. refl; left = λ p. cc; right = λ p. refl }

greater_chains : (b : Ordering) → Chains Greater b Greater
greater_chains b = record { less = λ p q. cc; left = λ p. cc; right = λ p. refl }

chains_less : (a : Ordering) → Chains a Less Less
chains_less a = record { less = λ p q. refl; left = λ p. refl; right = λ p. cc }

chains_greater : (a : Ordering) → Chains a Greater Greater
chains_greater a = record { less = λ p q. cc; left = λ p. refl; right = λ p. cc }

up_down : (c : Ordering) → Chains Less Greater c
up_down c = record { less = λ p q. cc; left = λ p. cc; right = λ p. cc }

down_up : (c : Ordering) → Chains Greater Less c
down_up c = record { less = λ p q. cc; left = λ p. cc; right = λ p. cc }

all_equal : Chains Equal Equal Equal
all_equal = record { less = λ p q. cc; left = λ p. refl; right = λ p. refl }

then_chains : (a b c p q s : Ordering) → Chains a b c → (a ≡ Equal → b ≡ Equal → Chains p q s)
    → Chains (ordering_then a p) (ordering_then b q) (ordering_then c s)
then_chains Less Less c p q s h k = rw (h.less refl refl) (less_chains Less)
then_chains Less Equal c p q s h k = rw (h.right refl) (less_chains q)
then_chains Less Greater c p q s h k = up_down (ordering_then c s)
then_chains Equal Less c p q s h k = rw (h.left refl) (chains_less p)
then_chains Equal Equal c p q s h k = rw (h.left refl) (k refl refl)
then_chains Equal Greater c p q s h k = rw (h.left refl) (chains_greater p)
then_chains Greater Less c p q s h k = down_up (ordering_then c s)
then_chains Greater Equal c p q s h k = rw (h.right refl) (greater_chains q)
then_chains Greater Greater c p q s h k = record { less = λ p q. cc; left = λ p. cc; right = λ p. cc }

ranked_chains : (R : Data → Data → Ordering) (N : List ℕ → List ℕ → Ordering) → IsRanked R N → (u v w : Data)
    → (kind u ≡ kind v → kind v ≡ kind w → Chains (content_by R N u v) (content_by R N v w) (content_by R N u w))
    → Chains (tree_by R N u v) (tree_by R N v w) (tree_by R N u w)
ranked_chains R N o u v w h = then_chains (R u v) (R v w) (R u w) (content_by R N u v) (content_by R N v w) (content_by R N u w)
    (total_chains o.rank u v w)
    (λ (p : R u v ≡ Equal) (q : R v w ≡ Equal). h (o.kinds u v p) (o.kinds v w q))

mutual
  content_chains : (R : Data → Data → Ordering) (N : List ℕ → List ℕ → Ordering) → IsRanked R N → (u v w : Data) → kind u ≡ kind v → kind v ≡ kind w → Chains (content_by R N u v) (content_by R N v w) (content_by R N u w)
  content_chains R N o null null null p q = all_equal
  content_chains R N o (boolean a) (boolean b) (boolean c) p q = total_chains bool_cmp_total a b c
  content_chains R N o (integer a) (integer b) (integer c) p q = total_chains int_cmp_total a b c
  content_chains R N o (number a) (number b) (number c) p q = total_chains o.numbers a b c
  content_chains R N o (text a) (text b) (text c) p q = total_chains text_total a b c
  content_chains R N o (list ds) (list es) (list fs) p q = items_chains R N o ds es fs
  content_chains R N o (object ms) (object ns) (object os) p q = members_chains R N o ms ns os
  content_chains R N o u v w p q = cc

  items_chains : (R : Data → Data → Ordering) (N : List ℕ → List ℕ → Ordering) → IsRanked R N → (ds es fs : Items) → Chains (items_by R N ds es) (items_by R N es fs) (items_by R N ds fs)
  items_chains R N o no_items no_items no_items = all_equal
  items_chains R N o no_items no_items (item f fs) = chains_less Equal
  items_chains R N o no_items (item e es) no_items = up_down Equal
  items_chains R N o no_items (item e es) (item f fs) = less_chains (items_by R N (item e es) (item f fs))
  items_chains R N o (item d ds) no_items no_items = greater_chains Equal
  items_chains R N o (item d ds) no_items (item f fs) = down_up (items_by R N (item d ds) (item f fs))
  items_chains R N o (item d ds) (item e es) no_items = chains_greater (items_by R N (item d ds) (item e es))
  items_chains R N o (item d ds) (item e es) (item f fs) =
      then_chains (tree_by R N d e) (tree_by R N e f) (tree_by R N d f) (items_by R N ds es) (items_by R N es fs) (items_by R N ds fs)
      (ranked_chains R N o d e f (content_chains R N o d e f))
      (λ (p : tree_by R N d e ≡ Equal) (q : tree_by R N e f ≡ Equal). items_chains R N o ds es fs)

  members_chains : (R : Data → Data → Ordering) (N : List ℕ → List ℕ → Ordering) → IsRanked R N → (ms ns os : Members) → Chains (members_by R N ms ns) (members_by R N ns os) (members_by R N ms os)
  members_chains R N o no_members no_members no_members = all_equal
  members_chains R N o no_members no_members (member m f os) = chains_less Equal
  members_chains R N o no_members (member l e ns) no_members = up_down Equal
  members_chains R N o no_members (member l e ns) (member m f os) = less_chains (members_by R N (member l e ns) (member m f os))
  members_chains R N o (member k d ms) no_members no_members = greater_chains Equal
  members_chains R N o (member k d ms) no_members (member m f os) = down_up (members_by R N (member k d ms) (member m f os))
  members_chains R N o (member k d ms) (member l e ns) no_members = chains_greater (members_by R N (member k d ms) (member l e ns))
  members_chains R N o (member k d ms) (member l e ns) (member m f os) =
      then_chains (text_cmp l k) (text_cmp m l) (text_cmp m k)
      (ordering_then (tree_by R N d e) (members_by R N ms ns)) (ordering_then (tree_by R N e f) (members_by R N ns os)) (ordering_then (tree_by R N d f) (members_by R N ms os))
      (total_chains name_total k l m)
      (λ (p : text_cmp l k ≡ Equal) (q : text_cmp m l ≡ Equal).
      then_chains (tree_by R N d e) (tree_by R N e f) (tree_by R N d f) (members_by R N ms ns) (members_by R N ns os) (members_by R N ms os)
      (ranked_chains R N o d e f (content_chains R N o d e f))
      (λ (r : tree_by R N d e ≡ Equal) (s : tree_by R N e f ≡ Equal). members_chains R N o ms ns os))

by_chains : (R : Data → Data → Ordering) (N : List ℕ → List ℕ → Ordering) → IsRanked R N → (u v w : Data) → Chains (tree_by R N u v) (tree_by R N v w) (tree_by R N u w)
by_chains R N o u v w = ranked_chains R N o u v w (content_chains R N o u v w)

pub by_total : (R : Data → Data → Ordering) (N : List ℕ → List ℕ → Ordering) → IsRanked R N → IsTotalOrder (tree_by R N)
by_total R N o = record {
  antisymm = λ u v. ranked_turn R N o u v (content_turn R N o u v);
  trans = λ u v w. (by_chains R N o u v w).less;
  congr = λ u v w. (by_chains R N o u v w).left;
}

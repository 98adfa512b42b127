-- The tree order as a comparison and the tree order in words are the same.
use Rattle.std.proofs.Common.{◌≡◌, ℕ, zero, suc, List, Bool, true, false, Option, Some, None, if◌then◌else◌, ◌⊎◌, inl, inr, refl, sym, ap, ◌∙◌, subst, arith}
use Rattle.std.specs.Prelude.{◌↔◌}
use Rattle.std.specs.Str.{bytes_eq}
use Rattle.std.proofs.lemmas.Slice.Eq.{bytes_eq-Decides}
use Rattle.std.proofs.lemmas.Map.Text.{is_eq-slice_cmp}
use Rattle.std.specs.Cmp.{nat_cmp_is, int_cmp_is}
use Rattle.std.proofs.lemmas.Cmp.{ranked, int_ranked, tied_itself}
use Rattle.std.specs.Ordering.{is_eq, nat_cmp, ordering_then, ordering_reverse}
use Rattle.std.specs.declared.cmp.Ordering.{Ordering}
use Rattle.std.specs.declared.cmp.Ordering.TheVariants.{Less, Equal, Greater}
use Rattle.jtree.specs.Data.{Data, boolean, integer, number, text, list, object, Items, no_items, item, Members, no_members, member, IsTree, AreTrees, AreMembers, IsNameBefore}
use Rattle.jtree.specs.Path.{item_at, member_at}
use Rattle.jtree.specs.Nodes.{nodes}
use Rattle.jtree.specs.Order.{kind, text_cmp, rank_cmp, content_cmp, items_cmp, members_cmp, tree_cmp}
use Rattle.jtree.specs.Internal.OrderLaws.{nat_tied, rank_tied, text_total, text_same, tree_total, tree_same}
use Rattle.jtree.specs.Before.{AreAlike, AgreeBelow, AgreeBefore, IsBefore, fewer_nodes, earlier_kind, false_first, lesser_integer, lesser_number, lesser_text, ends_first, lesser_item, absent_first, lesser_member}

-- ---- answers

then_less : (a b : Ordering) → ordering_then a b ≡ Less → (a ≡ Less) ⊎ ((a ≡ Equal) × (b ≡ Less))
then_less Less b p = inl refl
then_less Equal b p = inr (refl, p)
then_less Greater b p = cc

less_then : (a b : Ordering) → a ≡ Less → ordering_then a b ≡ Less
less_then Less b p = refl
less_then _ b p = cc

equal_then : (a b : Ordering) → a ≡ Equal → b ≡ Less → ordering_then a b ≡ Less
equal_then Equal b p q = q
equal_then _ b p q = cc

equal_equal : (a b : Ordering) → a ≡ Equal → b ≡ Equal → ordering_then a b ≡ Equal
equal_equal Equal b p q = q
equal_equal _ b p q = cc

nat_equal : (x y : ℕ) → x ≡ y → nat_cmp x y ≡ Equal
nat_equal x y p = sym (nat_cmp_is x y Equal p)

pub tree_tied : (d e : Data) → d ≡ e → tree_cmp d e ≡ Equal
tree_tied d e p = ap (λ w. tree_cmp d w) (sym p) ∙ tied_itself tree_total d

-- ---- names

bytes_itself : (k : List ℕ) → bytes_eq k k ≡ true
bytes_itself k = (bytes_eq-Decides k k).1 refl

case_name_by : (k l : List ℕ) (b : Bool) → bytes_eq k l ≡ b → (k ≡ l) ⊎ (bytes_eq k l ≡ false)
case_name_by k l true p = inl ((bytes_eq-Decides k l).0 p)
case_name_by k l false p = inr p

case_name : (k l : List ℕ) → (k ≡ l) ⊎ (bytes_eq k l ≡ false)
case_name k l = case_name_by k l (bytes_eq k l) refl

less_other : (k l : List ℕ) → text_cmp k l ≡ Less → bytes_eq k l ≡ false
less_other k l p = sym (is_eq-slice_cmp k l) ∙ ap is_eq p

greater_other : (k l : List ℕ) → text_cmp k l ≡ Less → bytes_eq l k ≡ false
greater_other k l p = sym (is_eq-slice_cmp l k) ∙ ap is_eq (text_total.antisymm l k ∙ ap ordering_reverse p)

three_ways_by : (k l : List ℕ) (o : Ordering) → text_cmp k l ≡ o → (text_cmp k l ≡ Less) ⊎ ((k ≡ l) ⊎ (text_cmp l k ≡ Less))
three_ways_by k l Less p = inl p
three_ways_by k l Equal p = inr (inl (text_same k l p))
three_ways_by k l Greater p = inr (inr (text_total.antisymm l k ∙ ap ordering_reverse p))

three_ways : (k l : List ℕ) → (text_cmp k l ≡ Less) ⊎ ((k ≡ l) ⊎ (text_cmp l k ≡ Less))
three_ways k l = three_ways_by k l (text_cmp k l) refl

at_same : (k : List ℕ) (d : Data) (ms : Members) → member_at k (member k d ms) ≡ Some d
at_same k d ms = rw (bytes_itself k)

at_other : (k l : List ℕ) (d : Data) (ms : Members) → bytes_eq k l ≡ false → member_at k (member l d ms) ≡ member_at k ms
at_other k l d ms p = rw p

before_below : (k l : List ℕ) (ms : Members) → text_cmp k l ≡ Less → IsNameBefore l ms → IsNameBefore k ms
before_below k l no_members p b = tt
before_below k l (member m d ms) p b = text_total.trans k l m p b

-- there is no value under a name that comes before all names
below_all : (k : List ℕ) (ms : Members) → AreMembers ms → IsNameBefore k ms → member_at k ms ≡ None
below_all k no_members h b = refl
below_all k (member l d ms) h b = at_other k l d ms (less_other k l b) ∙ below_all k ms h.2 (before_below k l ms b h.1)

-- each member of an object comes after a name that comes before all names
above : (l k : List ℕ) (ms : Members) → AreMembers ms → IsNameBefore l ms → (member_at k ms ≡ None → ⊥) → text_cmp l k ≡ Less
above l k no_members h b s = absurd (s refl)
above l k (member m d ms) h b s = elim (case_name k m) [
  | inl e ↦ ap (λ w. text_cmp l w) e ∙ b
  | inr f ↦ text_total.trans l m k b (above m k ms h.2 h.1 (λ (p : member_at k ms ≡ None). s (at_other k m d ms f ∙ p)))
]

-- ---- from the comparison to the words

-- at one index of two lists, or at one name of two objects, the first has nothing or a lesser tree
abbrev AtBefore : Option Data → Option Data → Type 0
AtBefore None None = ⊥
AtBefore None (Some e) = Unit {0}
AtBefore (Some d) None = ⊥
AtBefore (Some d) (Some e) = IsBefore d e

abbrev ItemsBefore : Items → Items → Type 0
ItemsBefore ds es = (i : ℕ) × AgreeBelow i ds es × AtBefore (item_at i ds) (item_at i es)

abbrev MembersBefore : Members → Members → Type 0
MembersBefore ms ns = (k : List ℕ) × AgreeBefore k ms ns × AtBefore (member_at k ms) (member_at k ns)

list_at : (ds es : Items) → AreAlike (list ds) (list es) → (i : ℕ) → AgreeBelow i ds es → (a b : Option Data)
    → item_at i ds ≡ a → item_at i es ≡ b → AtBefore a b → IsBefore (list ds) (list es)
list_at ds es s i g None None p q h = absurd h
list_at ds es s i g None (Some e) p q h = ends_first ds es i e s g p q
list_at ds es s i g (Some d) None p q h = absurd h
list_at ds es s i g (Some d) (Some e) p q h = lesser_item ds es i d e s g p q h

object_at : (ms ns : Members) → AreAlike (object ms) (object ns) → (k : List ℕ) → AgreeBefore k ms ns → (a b : Option Data)
    → member_at k ms ≡ a → member_at k ns ≡ b → AtBefore a b → IsBefore (object ms) (object ns)
object_at ms ns s k g None None p q h = absurd h
object_at ms ns s k g None (Some e) p q h = absent_first ms ns k e s g p q
object_at ms ns s k g (Some d) None p q h = absurd h
object_at ms ns s k g (Some d) (Some e) p q h = lesser_member ms ns k d e s g p q h

agree_more : (i : ℕ) (d e : Data) (ds es : Items) → d ≡ e → AgreeBelow i ds es → AgreeBelow (suc i) (item d ds) (item e es)
agree_more i d e ds es p g zero l = ap Some p
agree_more i d e ds es p g (suc j) l = g j (omega arith)

items_more : (d e : Data) (ds es : Items) → d ≡ e → ItemsBefore ds es → ItemsBefore (item d ds) (item e es)
items_more d e ds es p w = (suc w.0, agree_more w.0 d e ds es p w.1, w.2)

absent_at : (a b : Option Data) (e : Data) → a ≡ None → b ≡ Some e → AtBefore a b
absent_at a b e p q = rw (p, q) tt

present_at : (a b : Option Data) (d e : Data) → a ≡ Some d → b ≡ Some e → IsBefore d e → AtBefore a b
present_at a b d e p q h = rw (p, q) h

present_right : (a b : Option Data) → AtBefore a b → b ≡ None → ⊥
present_right None None h p = h
present_right None (Some e) h p = cc
present_right (Some d) None h p = h
present_right (Some d) (Some e) h p = cc

-- the second has a name that the first has not
name_first : (k l : List ℕ) (d e : Data) (ms ns : Members) → AreMembers (member k d ms) → AreMembers (member l e ns) → text_cmp l k ≡ Less
    → MembersBefore (member k d ms) (member l e ns)
name_first k l d e ms ns h g p = (
  l,
  λ x b. below_all x (member k d ms) h (text_total.trans x l k b p) ∙ sym (below_all x (member l e ns) g b),
  absent_at (member_at l (member k d ms)) (member_at l (member l e ns)) e (below_all l (member k d ms) h p) (at_same l e ns),
)

tree_first : (k : List ℕ) (d e : Data) (ms ns : Members) → AreMembers (member k d ms) → AreMembers (member k e ns) → IsBefore d e
    → MembersBefore (member k d ms) (member k e ns)
tree_first k d e ms ns h g p = (
  k,
  λ x b. below_all x (member k d ms) h b ∙ sym (below_all x (member k e ns) g b),
  present_at (member_at k (member k d ms)) (member_at k (member k e ns)) d e (at_same k d ms) (at_same k e ns) p,
)

members_more : (k : List ℕ) (d : Data) (ms ns : Members) → AreMembers (member k d ns) → MembersBefore ms ns
    → MembersBefore (member k d ms) (member k d ns)
members_more k d ms ns g w =
    let f : bytes_eq w.0 k ≡ false = greater_other k w.0
    (above k w.0 ns g.2 g.1 (present_right (member_at w.0 ms) (member_at w.0 ns) w.2)) in (
      w.0,
      λ x b. ap (λ o. if bytes_eq x k then Some d else o) (w.1 x b),
      subst (λ o. AtBefore o (member_at w.0 (member k d ns))) (sym (at_other w.0 k d ms f))
          (subst (λ o. AtBefore (member_at w.0 ms) o) (sym (at_other w.0 k d ns f)) w.2),
    )

rank_words : (u v : Data) → rank_cmp u v ≡ Less → IsBefore u v
rank_words u v p = elim (then_less (nat_cmp (nodes u) (nodes v)) (nat_cmp (kind u) (kind v)) p) [
  | inl q ↦ fewer_nodes u v (ranked (nodes u) (nodes v) Less (sym q))
  | inr q ↦ earlier_kind u v (nat_tied (nodes u) (nodes v) q.0) (ranked (kind u) (kind v) Less (sym q.1))
]

tree_words_by : (u v : Data) → (AreAlike u v → content_cmp u v ≡ Less → IsBefore u v) → tree_cmp u v ≡ Less → IsBefore u v
tree_words_by u v h p = elim (then_less (rank_cmp u v) (content_cmp u v) p) [
  | inl q ↦ rank_words u v q
  | inr q ↦ h (rank_tied u v q.0) q.1
]

one_name : (P : List ℕ → Type 0) (k l : List ℕ) → l ≡ k → P k → P l
one_name P k l p h = subst P (sym p) h

one_member : (k l : List ℕ) (d e : Data) (ms ns : Members) → AreMembers (member l e ns) → l ≡ k → d ≡ e → MembersBefore ms ns
    → MembersBefore (member k d ms) (member l e ns)
one_member k l d e ms ns g p q w =
    let r : member k d ns ≡ member l e ns = λ i. member (sym p i) (q i) ns in
    subst (λ z. MembersBefore (member k d ms) z) r (members_more k d ms ns (subst AreMembers (sym r) g) w)

mutual
  content_words : (u v : Data) → IsTree u → IsTree v → AreAlike u v → content_cmp u v ≡ Less → IsBefore u v
  content_words (boolean false) (boolean false) h g s p = cc
  content_words (boolean false) (boolean true) h g s p = false_first
  content_words (boolean true) (boolean false) h g s p = cc
  content_words (boolean true) (boolean true) h g s p = cc
  content_words (integer a) (integer b) h g s p = lesser_integer a b (int_ranked a b Less (sym p))
  content_words (number a) (number b) h g s p = lesser_number a b p
  content_words (text a) (text b) h g s p = lesser_text a b p
  content_words (list ds) (list es) h g s p =
      let w = items_words ds es h g p in
      list_at ds es s w.0 w.1 (item_at w.0 ds) (item_at w.0 es) refl refl w.2
  content_words (object ms) (object ns) h g s p =
      let w = members_words ms ns h g p in
      object_at ms ns s w.0 w.1 (member_at w.0 ms) (member_at w.0 ns) refl refl w.2
  content_words u v h g s p = cc

  items_words : (ds es : Items) → AreTrees ds → AreTrees es → items_cmp ds es ≡ Less → ItemsBefore ds es
  items_words no_items no_items h g p = cc
  items_words no_items (item e es) h g p = (0, λ j l. absurd (omega arith), tt)
  items_words (item d ds) no_items h g p = cc
  items_words (item d ds) (item e es) h g p = elim (then_less (tree_cmp d e) (items_cmp ds es) p) [
    | inl q ↦ (0, λ j l. absurd (omega arith), tree_words_by d e (content_words d e h.0 g.0) q)
    | inr q ↦ items_more d e ds es (tree_same d e q.0) (items_words ds es h.1 g.1 q.1)
  ]

  members_words : (ms ns : Members) → AreMembers ms → AreMembers ns → members_cmp ms ns ≡ Less → MembersBefore ms ns
  members_words no_members no_members h g p = cc
  members_words no_members (member l e ns) h g p =
      (l, λ x b. sym (below_all x (member l e ns) g b), absent_at None (member_at l (member l e ns)) e refl (at_same l e ns))
  members_words (member k d ms) no_members h g p = cc
  members_words (member k d ms) (member l e ns) h g p = elim (then_less (text_cmp l k) (ordering_then (tree_cmp d e) (members_cmp ms ns)) p) [
    | inl q ↦ name_first k l d e ms ns h g q
    | inr q ↦ elim (then_less (tree_cmp d e) (members_cmp ms ns) q.1) [
      | inl r ↦ one_name (λ z. MembersBefore (member k d ms) (member z e ns)) k l (text_same l k q.0)
          (tree_first k d e ms ns h (subst (λ z. AreMembers (member z e ns)) (text_same l k q.0) g) (tree_words_by d e (content_words d e h.0 g.0) r))
      | inr r ↦ one_member k l d e ms ns g (text_same l k q.0) (tree_same d e r.0) (members_words ms ns h.2 g.2 r.1)
    ]
  ]

-- ---- from the words to the comparison

abbrev AtLess : Option Data → Option Data → Type 0
AtLess None None = ⊥
AtLess None (Some e) = Unit {0}
AtLess (Some d) None = ⊥
AtLess (Some d) (Some e) = tree_cmp d e ≡ Less

none_greatest : (a : Option Data) → AtLess a None → ⊥
none_greatest None h = h
none_greatest (Some d) h = h

less_right : (a b : Option Data) → AtLess a b → b ≡ None → ⊥
less_right None None h p = h
less_right None (Some e) h p = cc
less_right (Some d) None h p = h
less_right (Some d) (Some e) h p = cc

less_present : (a b : Option Data) (d e : Data) → a ≡ Some d → b ≡ Some e → AtLess a b → tree_cmp d e ≡ Less
less_present None b d e p q h = cc
less_present (Some c) None d e p q h = absurd h
less_present (Some c) (Some f) d e p q h =
    let r : c ≡ d = cc in
    let s : f ≡ e = cc in
    ap (λ w. tree_cmp w e) (sym r) ∙ ap (λ w. tree_cmp c w) (sym s) ∙ h

absent_less : (a b : Option Data) (e : Data) → a ≡ None → b ≡ Some e → AtLess a b
absent_less a b e p q = rw (p, q) tt

present_less : (a b : Option Data) (d e : Data) → a ≡ Some d → b ≡ Some e → tree_cmp d e ≡ Less → AtLess a b
present_less a b d e p q h = rw (p, q) h

some_same : (d e : Data) → Some d ≡ Some e → d ≡ e
some_same d e p = cc

items_less : (i : ℕ) (ds es : Items) → AgreeBelow i ds es → AtLess (item_at i ds) (item_at i es) → items_cmp ds es ≡ Less
items_less i no_items no_items g h = absurd h
items_less i no_items (item e es) g h = refl
items_less i (item d ds) no_items g h = absurd (none_greatest (item_at i (item d ds)) h)
items_less zero (item d ds) (item e es) g h = less_then (tree_cmp d e) (items_cmp ds es) h
items_less (suc i) (item d ds) (item e es) g h = equal_then (tree_cmp d e) (items_cmp ds es)
    (tree_tied d e (some_same d e (g 0 (omega arith)))) (items_less i ds es (λ j l. g (suc j) (omega arith)) h)

-- what agrees with the first member agrees without it
agree_rest : (k l : List ℕ) (d e : Data) (ms ns : Members) → AreMembers (member l d ms) → AreMembers (member l e ns)
    → AgreeBefore k (member l d ms) (member l e ns) → AgreeBefore k ms ns
agree_rest k l d e ms ns h g a x b = elim (case_name x l) [
  | inl p ↦ subst (λ z. member_at z ms ≡ member_at z ns) (sym p) (below_all l ms h.2 h.1 ∙ sym (below_all l ns g.2 g.1))
  | inr q ↦ sym (at_other x l d ms q) ∙ a x b ∙ at_other x l e ns q
]

-- two objects with one least name
one_name_less : (k l : List ℕ) (d e : Data) (ms ns : Members) → AreMembers (member l d ms) → AreMembers (member l e ns)
    → AgreeBefore k (member l d ms) (member l e ns) → AtLess (member_at k (member l d ms)) (member_at k (member l e ns))
    → (AgreeBefore k ms ns → AtLess (member_at k ms) (member_at k ns) → members_cmp ms ns ≡ Less)
    → ordering_then (tree_cmp d e) (members_cmp ms ns) ≡ Less
one_name_less k l d e ms ns h g a b rest = elim (case_name k l) [
  | inl p ↦ less_then (tree_cmp d e) (members_cmp ms ns)
      (less_present (member_at k (member l d ms)) (member_at k (member l e ns)) d e
      (subst (λ z. member_at z (member l d ms) ≡ Some d) (sym p) (at_same l d ms))
      (subst (λ z. member_at z (member l e ns) ≡ Some e) (sym p) (at_same l e ns)) b)
  | inr q ↦
      let r : AtLess (member_at k ms) (member_at k ns) =
      subst (λ o. AtLess (member_at k ms) o) (at_other k l e ns q)
      (subst (λ o. AtLess o (member_at k (member l e ns))) (at_other k l d ms q) b) in
      let low : text_cmp l k ≡ Less = above l k ns g.2 g.1 (less_right (member_at k ms) (member_at k ns) r) in
      equal_then (tree_cmp d e) (members_cmp ms ns)
      (tree_tied d e (some_same d e (sym (at_same l d ms) ∙ a l low ∙ at_same l e ns)))
      (rest (agree_rest k l d e ms ns h g a) r)
]

-- a name that the second lacks comes before no place where the first is less
missing_name : (k l m : List ℕ) (d e : Data) (ms ns : Members) → AreMembers (member m e ns) → text_cmp l m ≡ Less
    → AgreeBefore k (member l d ms) (member m e ns) → AtLess (member_at k (member l d ms)) (member_at k (member m e ns)) → ⊥
missing_name k l m d e ms ns g p a b =
    let low : text_cmp l k ≡ Less = above l k (member m e ns) g p (less_right (member_at k (member l d ms)) (member_at k (member m e ns)) b) in
    let q : Some d ≡ None = sym (at_same l d ms) ∙ a l low ∙ below_all l (member m e ns) g p in
    cc

members_less : (k : List ℕ) (ms ns : Members) → AreMembers ms → AreMembers ns → AgreeBefore k ms ns → AtLess (member_at k ms) (member_at k ns)
    → members_cmp ms ns ≡ Less
members_less k no_members no_members h g a b = absurd b
members_less k no_members (member m e ns) h g a b = refl
members_less k (member l d ms) no_members h g a b = absurd (none_greatest (member_at k (member l d ms)) b)
members_less k (member l d ms) (member m e ns) h g a b = elim (three_ways m l) [
  | inl p ↦ less_then (text_cmp m l) (ordering_then (tree_cmp d e) (members_cmp ms ns)) p
  | inr q ↦ elim q [
    | inl p ↦ equal_then (text_cmp m l) (ordering_then (tree_cmp d e) (members_cmp ms ns))
        (ap (λ w. text_cmp m w) (sym p) ∙ tied_itself text_total m)
        (one_name_less k l d e ms ns h (subst (λ z. AreMembers (member z e ns)) p g)
        (subst (λ z. AgreeBefore k (member l d ms) (member z e ns)) p a)
        (subst (λ z. AtLess (member_at k (member l d ms)) (member_at k (member z e ns))) p b)
        (members_less k ms ns h.2 g.2))
    | inr p ↦ absurd (missing_name k l m d e ms ns g p a b)
  ]
]

rank_tied_back : (u v : Data) → AreAlike u v → rank_cmp u v ≡ Equal
rank_tied_back u v s = equal_equal (nat_cmp (nodes u) (nodes v)) (nat_cmp (kind u) (kind v))
    (nat_equal (nodes u) (nodes v) s.0) (nat_equal (kind u) (kind v) s.1)

alike_less : (u v : Data) → AreAlike u v → content_cmp u v ≡ Less → tree_cmp u v ≡ Less
alike_less u v s p = equal_then (rank_cmp u v) (content_cmp u v) (rank_tied_back u v s) p

item_is_tree : (i : ℕ) (ds : Items) (d : Data) → AreTrees ds → item_at i ds ≡ Some d → IsTree d
item_is_tree i no_items d h p = cc
item_is_tree zero (item e es) d h p = subst IsTree (some_same e d p) h.0
item_is_tree (suc i) (item e es) d h p = item_is_tree i es d h.1 p

member_is_tree : (k : List ℕ) (ms : Members) (d : Data) → AreMembers ms → member_at k ms ≡ Some d → IsTree d
member_is_tree k no_members d h p = cc
member_is_tree k (member l e ms) d h p = elim (case_name k l) [
  | inl q ↦ subst IsTree (some_same e d (sym (at_same l e ms) ∙ subst (λ z. member_at z (member l e ms) ≡ Some d) q p)) h.0
  | inr q ↦ member_is_tree k ms d h.2 (sym (at_other k l e ms q) ∙ p)
]

words_less : (u v : Data) → IsTree u → IsTree v → IsBefore u v → tree_cmp u v ≡ Less
words_less _ _ h g (fewer_nodes u v p) = less_then (rank_cmp u v) (content_cmp u v)
    (less_then (nat_cmp (nodes u) (nodes v)) (nat_cmp (kind u) (kind v)) (sym (nat_cmp_is (nodes u) (nodes v) Less p)))
words_less _ _ h g (earlier_kind u v p q) = less_then (rank_cmp u v) (content_cmp u v)
    (equal_then (nat_cmp (nodes u) (nodes v)) (nat_cmp (kind u) (kind v)) (nat_equal (nodes u) (nodes v) p)
    (sym (nat_cmp_is (kind u) (kind v) Less q)))
words_less _ _ h g false_first = refl
words_less _ _ h g (lesser_integer a b p) = sym (int_cmp_is a b Less p)
words_less _ _ h g (lesser_number a b p) = p
words_less _ _ h g (lesser_text a b p) = p
words_less _ _ h g (ends_first ds es i e s a p q) = alike_less (list ds) (list es) s
    (items_less i ds es a (absent_less (item_at i ds) (item_at i es) e p q))
words_less _ _ h g (lesser_item ds es i d e s a p q w) = alike_less (list ds) (list es) s
    (items_less i ds es a (present_less (item_at i ds) (item_at i es) d e p q
    (words_less d e (item_is_tree i ds d h p) (item_is_tree i es e g q) w)))
words_less _ _ h g (absent_first ms ns k e s a p q) = alike_less (object ms) (object ns) s
    (members_less k ms ns h g a (absent_less (member_at k ms) (member_at k ns) e p q))
words_less _ _ h g (lesser_member ms ns k d e s a p q w) = alike_less (object ms) (object ns) s
    (members_less k ms ns h g a (present_less (member_at k ms) (member_at k ns) d e p q
    (words_less d e (member_is_tree k ms d h p) (member_is_tree k ns e g q) w)))

pub less_is_before : (u v : Data) → IsTree u → IsTree v → (tree_cmp u v ≡ Less) ↔ IsBefore u v
less_is_before u v h g = (tree_words_by u v (content_words u v h g), words_less u v h g)

-- The leaves by level are all leaves, in order.
use Rattle.std.specs.Prelude.{◌≡◌, ◌+◌, ◌++◌, ℕ, zero, suc, List, [], ◌∷◌, map, true, Option, Some, None, option_map, codes}
use Rattle.std.proofs.Common.{◌⊎◌, arith, refl, sym, ap, subst, ◌∙◌, inl, inr}
use Rattle.std.specs.Str.{bytes_eq}
use Rattle.std.specs.Cmp.{nat_cmp_is}
use Rattle.std.specs.declared.cmp.Ordering.TheVariants.{Less}
use Rattle.std.proofs.lemmas.Option.{same_Some}
use Rattle.jtree.specs.Data.{Data, Items, no_items, item, Members, no_members, member, IsTree, AreMembers, AreTrees}
use Rattle.jtree.specs.Data as tree
use Rattle.jtree.specs.Path.{Step, name, index, Path, member_at, item_at}
use Rattle.jtree.specs.PathOrder.{step_cmp, path_cmp}
use Rattle.jtree.specs.Internal.Lookups.{bool_cases, option_cases, same_name, member_first, member_tail, before_each}
use Rattle.jtree.specs.Internal.PathLaws.{same_step}
use Rattle.jtree.specs.Internal.Rising.{Among, Rising, among_left, among_right, among_parts, rising_join, contains, each_of, all_pairs}
use Rattle.schema.specs.Nodes.Node.{Node, node, object, map as map_of, list}
use Rattle.schema.specs.declared.node.ListType.TheVariants as list_type
use Rattle.schema.specs.declared.node.MapType.TheVariants as map_type
use Rattle.stored.specs.Objects.Parts.{pair, whole as whole_value, node_by, Part, at, free, part_of, value_of, leads}
use Rattle.stored.specs.Objects.Leaves.{is_divided, item_element, element, leaf_at, LeafAt, AreLeavesAt}
use Rattle.stored.specs.Internal.Pruning.{field_node}
use Rattle.stored.specs.Internal.LeavesByLevel.{here, below, whole, leaves_below, of_members, of_items, leaves_by_level, part_leaves}
use Rattle.stored.proofs.LevelLemmas.{member_tree}
use Rattle.stored.proofs.FaultLemmas.{item_tree}

abbrev pub leaf : Path → List (List ℕ) → LeafAt
leaf p es = record { path = p; elements = es }

abbrev pub Precedes : LeafAt → LeafAt → Type 0
Precedes l m = path_cmp l.path m.path ≡ Less

-- ---- lists

pub mapped : {A B : Type 0} (f : A → B) (o : Option A) (y : B) → option_map f o ≡ Some y → (x : A) × (o ≡ Some x) × (f x ≡ y)
mapped f None y e = cc
mapped f (Some x) y e = (x, refl, same_Some (f x) y e)

pub among_map : {A B : Type 0} (f : A → B) (xs : List A) (y : B) → Among (map f xs) y → (x : A) × Among xs x × (f x ≡ y)
among_map f [] y a = elim a [ ]
among_map f (x ∷ xs) y (inl e) = (x, inl refl, e)
among_map f (x ∷ xs) y (inr a) = let r = among_map f xs y a in (r.0, inr r.1, r.2)

map_among : {A B : Type 0} (f : A → B) (xs : List A) (x : A) → Among xs x → Among (map f xs) (f x)
map_among f [] x a = elim a [ ]
map_among f (y ∷ xs) x (inl e) = inl (ap f e)
map_among f (y ∷ xs) x (inr a) = inr (map_among f xs x a)

rising_below : (s : Step) (e : List ℕ) (ls : List LeafAt) → Rising Precedes ls → Rising Precedes (map (below s e) ls)
rising_below s e [] r = tt
rising_below s e (l ∷ ls) r = (
  λ m a. let x = among_map (below s e) ls m a in subst (Precedes (below s e l)) x.2 (same_step s l.path x.0.path ∙ r.0 x.0 x.1),
  rising_below s e ls r.1,
)

-- ---- what is divided

pub undivided : (N : Node) (v : Data) → pair N v ≡ whole_value → is_divided N v ≡ true → ⊥
undivided (node n t (object fs preserves map_type.Granular bounds cs)) (tree.object ms) e divided = cc
undivided (node n t (map_of M map_type.Granular bounds)) (tree.object ms) e divided = cc
undivided (node n t (list M (list_type.Set a) keys bounds)) (tree.list ds) e divided = cc
undivided (node n t (list M (list_type.Map a) keys bounds)) (tree.list ds) e divided = cc
undivided _ _ e divided = cc

-- ---- a leaf of a part

abbrev pub leaves_in : Part → List LeafAt
leaves_in (at N v) = leaves_by_level N v
leaves_in (free v) = here ∷ []

in_part : (o : Option Node) (v : Data) → part_leaves o v ≡ leaves_in (part_of o v)
in_part None v = refl
in_part (Some N) v = refl

value_is : (o : Option Node) (v : Data) → value_of (part_of o v) ≡ v
value_is None v = refl
value_is (Some N) v = refl

record IsNamed (nodes : List ℕ → Option Node) (ms : Members) (l : LeafAt) : Type 0 where
  key : List ℕ
  value : Data
  rest : LeafAt
  is : below (name key) (codes "f:" ++ key) rest ≡ l
  there : member_at key ms ≡ Some value
  among : Among (part_leaves (nodes key) value) rest

named : (nodes : List ℕ → Option Node) (ms : Members) → AreMembers ms → (l : LeafAt) → Among (of_members nodes ms) l → IsNamed nodes ms l
named nodes no_members o l a = elim a [ ]
named nodes (member k d ms) o l a = elim (among_parts (map (below (name k) (codes "f:" ++ k)) (part_leaves (nodes k) d)) (of_members nodes ms) l a) [
  | inl h ↦ let x = among_map (below (name k) (codes "f:" ++ k)) (part_leaves (nodes k) d) l h in record { key = k; value = d; rest = x.0; is = x.2; there = member_first k d ms; among = x.1 }
  | inr h ↦
      let x = named nodes ms o.2 l h in
      record { key = x.key; value = x.value; rest = x.rest; is = x.is; there = member_tail k d ms x.key x.value o x.there; among = x.among }
]

named_among : (nodes : List ℕ → Option Node) (ms : Members) (k : List ℕ) (d : Data) (l : LeafAt) → member_at k ms ≡ Some d → Among (part_leaves (nodes k) d) l
    → Among (of_members nodes ms) (below (name k) (codes "f:" ++ k) l)
named_among nodes no_members k d l e a = cc
named_among nodes (member m c ms) k d l e a =
    let first = map (below (name m) (codes "f:" ++ m)) (part_leaves (nodes m) c) in
    let there = below (name k) (codes "f:" ++ k) l in
    elim (bool_cases (bytes_eq k m)) [
      | inl t ↦
          let key = same_name k m t in
          let value : c ≡ d = same_Some c d (rw t at e) in
          among_left first (of_members nodes ms) there
          (subst (λ n. Among (map (below (name n) (codes "f:" ++ n)) (part_leaves (nodes n) c)) there) key
          (map_among (below (name k) (codes "f:" ++ k)) (part_leaves (nodes k) c) l (subst (λ v. Among (part_leaves (nodes k) v) l) (sym value) a)))
      | inr f ↦ among_right first (of_members nodes ms) there (named_among nodes ms k d l (rw f at e) a)
    ]

record IsPlaced (N : Node) (element_of : Data → List ℕ) (i : ℕ) (ds : Items) (l : LeafAt) : Type 0 where
  place : ℕ
  from : ℕ
  sum : place ≡ i + from
  value : Data
  rest : LeafAt
  is : below (index place) (element_of value) rest ≡ l
  there : item_at from ds ≡ Some value
  among : Among (leaves_by_level N value) rest

placed : (N : Node) (element_of : Data → List ℕ) (i : ℕ) (ds : Items) (l : LeafAt) → Among (of_items N element_of i ds) l → IsPlaced N element_of i ds l
placed N element_of i no_items l a = elim a [ ]
placed N element_of i (item d ds) l a = elim (among_parts (map (below (index i) (element_of d)) (leaves_by_level N d)) (of_items N element_of (suc i) ds) l a) [
  | inl h ↦
      let x = among_map (below (index i) (element_of d)) (leaves_by_level N d) l h in
      record { place = i; from = 0; sum = omega arith; value = d; rest = x.0; is = x.2; there = refl; among = x.1 }
  | inr h ↦
      let x = placed N element_of (suc i) ds l h in
      record { place = x.place; from = suc x.from; sum = omega (arith, x.sum); value = x.value; rest = x.rest; is = x.is; there = x.there; among = x.among }
]

placed_among : (N : Node) (element_of : Data → List ℕ) (i n j : ℕ) (ds : Items) (d : Data) (l : LeafAt) → j ≡ i + n → item_at n ds ≡ Some d → Among (leaves_by_level N d) l
    → Among (of_items N element_of i ds) (below (index j) (element_of d) l)
placed_among N element_of i n j no_items d l sum e a = cc
placed_among N element_of i zero j (item c ds) d l sum e a =
    let value : c ≡ d = same_Some c d e in
    let place : i ≡ j = omega arith in
    among_left (map (below (index i) (element_of c)) (leaves_by_level N c)) (of_items N element_of (suc i) ds) (below (index j) (element_of d) l)
    (subst (λ m. Among (map (below (index m) (element_of c)) (leaves_by_level N c)) (below (index j) (element_of d) l)) (sym place)
    (subst (λ v. Among (map (below (index j) (element_of v)) (leaves_by_level N v)) (below (index j) (element_of d) l)) (sym value)
    (map_among (below (index j) (element_of d)) (leaves_by_level N d) l a)))
placed_among N element_of i (suc n) j (item c ds) d l sum e a =
    among_right (map (below (index i) (element_of c)) (leaves_by_level N c)) (of_items N element_of (suc i) ds) (below (index j) (element_of d) l)
    (placed_among N element_of (suc i) n j ds d l (omega arith) e a)

-- a leaf is below a step
record IsLedTo (N : Node) (v : Data) (l : LeafAt) : Type 0 where
  step : Step
  part : Part
  rest : LeafAt
  is : below step (element N step (value_of part)) rest ≡ l
  leads_there : leads N v step ≡ Some part
  tree : IsTree (value_of part)
  among : Among (leaves_in part) rest

named_led_to : (N : Node) (ms : Members) (nodes : List ℕ → Option Node) → ((k : List ℕ) → node_by (pair N (tree.object ms)) (name k) ≡ nodes k) → AreMembers ms
    → (l : LeafAt) → IsNamed nodes ms l → IsLedTo N (tree.object ms) l
named_led_to N ms nodes by o l x = record {
  step = name x.key;
  part = part_of (nodes x.key) x.value;
  rest = x.rest;
  is = x.is;
  leads_there = rw (by x.key, x.there) refl;
  tree = subst IsTree (sym (value_is (nodes x.key) x.value)) (member_tree x.key ms x.value o x.there);
  among = subst (λ ls. Among ls x.rest) (in_part (nodes x.key) x.value) x.among;
}

led_to : (N : Node) (v : Data) → IsTree v → (l : LeafAt) → Among (leaves_below N v) l → IsLedTo N v l
led_to (node n t (object fs preserves type bounds cs)) (tree.object ms) o l a =
    named_led_to (node n t (object fs preserves type bounds cs)) ms (field_node fs) (λ k. refl) o l (named (field_node fs) ms o l a)
led_to (node n t (map_of M type bounds)) (tree.object ms) o l a = named_led_to (node n t (map_of M type bounds)) ms (λ k. Some M) (λ k. refl) o l (named (λ k. Some M) ms o l a)
led_to (node n t (list M type keys bounds)) (tree.list ds) o l a =
    let x = placed M (item_element type keys) 0 ds l a in
    let there : item_at x.place ds ≡ Some x.value = let same : x.from ≡ x.place = omega (arith, x.sum) in subst (λ m. item_at m ds ≡ Some x.value) same x.there in
    record {
      step = index x.place;
      part = at M x.value;
      rest = x.rest;
      is = x.is;
      leads_there = rw there refl;
      tree = item_tree x.place ds x.value o there;
      among = x.among;
    }
led_to _ _ o l a = elim a [ ]

named_standing : (N : Node) (ms : Members) (nodes : List ℕ → Option Node) → ((k : List ℕ) → node_by (pair N (tree.object ms)) (name k) ≡ nodes k)
    → (k : List ℕ) (q : Part) (l : LeafAt) → leads N (tree.object ms) (name k) ≡ Some q → Among (leaves_in q) l → Among (of_members nodes ms) (below (name k) (codes "f:" ++ k) l)
named_standing N ms nodes by k q l e a =
    let x = mapped (part_of (nodes k)) (member_at k ms) q (rw by at e) in
    named_among nodes ms k x.0 l x.1 (subst (λ ls. Among ls l) (ap leaves_in (sym x.2) ∙ sym (in_part (nodes k) x.0)) a)

standing : (N : Node) (v : Data) (s : Step) (q : Part) (l : LeafAt) → is_divided N v ≡ true → leads N v s ≡ Some q → Among (leaves_in q) l
    → Among (leaves_below N v) (below s (element N s (value_of q)) l)
standing (node n t (object fs preserves type bounds cs)) (tree.object ms) (name k) q l divided e a = named_standing (node n t (object fs preserves type bounds cs)) ms (field_node fs) (λ k. refl) k q l e a
standing (node n t (map_of M type bounds)) (tree.object ms) (name k) q l divided e a = named_standing (node n t (map_of M type bounds)) ms (λ k. Some M) (λ k. refl) k q l e a
standing (node n t (list M type keys bounds)) (tree.list ds) (index i) q l divided e a =
    let x = mapped (at M) (item_at i ds) q e in
    subst (λ p. Among (of_items M (item_element type keys) 0 ds) (below (index i) (item_element type keys (value_of p)) l)) x.2
    (placed_among M (item_element type keys) 0 i i ds x.0 l (omega arith) x.1 (subst (λ p. Among (leaves_in p) l) (sym x.2) a))
standing N (tree.object ms) (index i) q l divided e a = absurd (cc)
standing N (tree.list ds) (name k) q l divided e a = absurd (cc)
standing N v s q l divided e a = absurd (undivided N v refl divided)

-- ---- at a path

-- a leaf below a divided value is one of a part
pub down : (N : Node) (v : Data) (s : Step) (p : Path) (es : List (List ℕ)) → is_divided N v ≡ true → leaf_at (at N v) (s ∷ p) ≡ Some es
    → (q : Part) × (fs : List (List ℕ)) × (leads N v s ≡ Some q) × (leaf_at q p ≡ Some fs) × (element N s (value_of q) ∷ fs ≡ es)
down N v s p es divided e = elim (option_cases (leads N v s)) [
  | inl none ↦ let f = rw (divided, none) at e in cc
  | inr q ↦ let x = mapped (λ fs. element N s (value_of q.0) ∷ fs) (leaf_at q.0 p) es (rw (divided, q.1) at e) in (q.0, x.0, q.1, x.1, x.2)
]

is_leaf : (p : Path) (es : List (List ℕ)) (q : Part) → IsTree (value_of q) → Among (leaves_in q) (leaf p es) → leaf_at q p ≡ Some es
is_leaf [] es (free v) t (inl e) = ap (λ l. Some l.elements) e
is_leaf [] es (free v) t (inr a) = elim a [ ]
is_leaf (s ∷ p) es (free v) t (inl e) = let path = ap (λ l. l.path) e in cc
is_leaf (s ∷ p) es (free v) t (inr a) = elim a [ ]
is_leaf [] es (at N v) t a = elim (bool_cases (is_divided N v)) [
  | inl divided ↦ let x = led_to N v t (leaf [] es) (rw divided at a) in let path = ap (λ l. l.path) x.is in cc
  | inr single ↦ let b : (here ≡ leaf [] es) ⊎ ⊥ = rw single at a in elim b [ inl e ↦ rw single (ap (λ l. Some l.elements) e) | inr none ↦ elim none [ ] ]
]
is_leaf (s ∷ p) es (at N v) t a = elim (bool_cases (is_divided N v)) [
  | inl divided ↦
      let x = led_to N v t (leaf (s ∷ p) es) (rw divided at a) in
      let path : x.step ∷ x.rest.path ≡ s ∷ p = ap (λ l. l.path) x.is in
      let step : x.step ≡ s = cc in
      let rest : x.rest.path ≡ p = cc in
      let there : leads N v s ≡ Some x.part = subst (λ u. leads N v u ≡ Some x.part) step x.leads_there in
      let deeper = is_leaf p x.rest.elements x.part x.tree (subst (λ q. Among (leaves_in x.part) (leaf q x.rest.elements)) rest x.among) in
      rw (divided, there, deeper) (ap Some (ap (λ u. element N u (value_of x.part) ∷ x.rest.elements) (sym step) ∙ ap (λ l. l.elements) x.is))
  | inr single ↦ let b : (here ≡ leaf (s ∷ p) es) ⊎ ⊥ = rw single at a in elim b [ inl e ↦ let path = ap (λ l. l.path) e in cc | inr none ↦ elim none [ ] ]
]

leaf_found : (p : Path) (es : List (List ℕ)) (q : Part) → leaf_at q p ≡ Some es → Among (leaves_in q) (leaf p es)
leaf_found [] es (free v) e = inl (ap (leaf []) (same_Some [] es e))
leaf_found (s ∷ p) es (free v) e = cc
leaf_found [] es (at N v) e = elim (bool_cases (is_divided N v)) [
  | inl divided ↦ let f = rw divided at e in cc
  | inr single ↦ rw single (inl (ap (leaf []) (same_Some [] es (rw single at e))))
]
leaf_found (s ∷ p) es (at N v) e = elim (bool_cases (is_divided N v)) [
  | inl divided ↦
      let x = down N v s p es divided e in
      rw divided (subst (λ fs. Among (leaves_below N v) (leaf (s ∷ p) fs)) x.4 (standing N v s x.0 (leaf p x.1) divided x.2 (leaf_found p x.1 x.0 x.3)))
  | inr single ↦ let f = rw single at e in cc
]

-- ---- in order

rising_whole : (N : Node) (v : Data) (ls : List LeafAt) → Rising Precedes ls → Rising Precedes (whole N v ls)
rising_whole N v ls r = elim (bool_cases (is_divided N v)) [ inl divided ↦ rw divided r | inr single ↦ rw single (λ l a. elim a [ ], tt) ]

rising_part : (o : Option Node) (d : Data) → ((N : Node) → Rising Precedes (leaves_below N d)) → Rising Precedes (part_leaves o d)
rising_part None d r = (λ l a. elim a [ ], tt)
rising_part (Some N) d r = rising_whole N d (leaves_below N d) (r N)

earlier : (l m : LeafAt) (s t : Step) (p q : Path) → s ∷ p ≡ l.path → t ∷ q ≡ m.path → step_cmp s t ≡ Less → Precedes l m
earlier l m s t p q e f less = rw (← e, ← f, less) refl

mutual
  rising : (N : Node) (v : Data) → IsTree v → Rising Precedes (leaves_below N v)
  rising (node n t (object fs preserves type bounds cs)) (tree.object ms) o = rising_members (field_node fs) ms o
  rising (node n t (map_of M type bounds)) (tree.object ms) o = rising_members (λ k. Some M) ms o
  rising (node n t (list M type keys bounds)) (tree.list ds) o = rising_items M (item_element type keys) 0 ds o
  rising _ _ o = tt

  rising_members : (nodes : List ℕ → Option Node) (ms : Members) → AreMembers ms → Rising Precedes (of_members nodes ms)
  rising_members nodes no_members o = tt
  rising_members nodes (member k d ms) o =
      let first = part_leaves (nodes k) d in
      rising_join Precedes (map (below (name k) (codes "f:" ++ k)) first) (of_members nodes ms)
      (rising_below (name k) (codes "f:" ++ k) first (rising_part (nodes k) d (λ N. rising N d o.0)))
      (rising_members nodes ms o.2)
      (λ l m a b.
      let x = among_map (below (name k) (codes "f:" ++ k)) first l a in
      let y = named nodes ms o.2 m b in
      earlier l m (name k) (name y.key) x.0.path y.rest.path (ap (λ z. z.path) x.2) (ap (λ z. z.path) y.is) (before_each k ms y.key y.value o.1 o.2 y.there))

  rising_items : (N : Node) (element_of : Data → List ℕ) (i : ℕ) (ds : Items) → AreTrees ds → Rising Precedes (of_items N element_of i ds)
  rising_items N element_of i no_items o = tt
  rising_items N element_of i (item d ds) o =
      let first = leaves_by_level N d in
      rising_join Precedes (map (below (index i) (element_of d)) first) (of_items N element_of (suc i) ds)
      (rising_below (index i) (element_of d) first (rising_whole N d (leaves_below N d) (rising N d o.0)))
      (rising_items N element_of (suc i) ds o.1)
      (λ l m a b.
      let x = among_map (below (index i) (element_of d)) first l a in
      let y = placed N element_of (suc i) ds m b in
      earlier l m (index i) (index y.place) x.0.path y.rest.path (ap (λ z. z.path) x.2) (ap (λ z. z.path) y.is) (sym (nat_cmp_is i y.place Less (omega (arith, y.sum)))))

pub all_leaves : (N : Node) (v : Data) → IsTree v → AreLeavesAt N v (leaves_by_level N v)
all_leaves N v o = record {
  each = each_of (λ l. leaf_at (at N v) l.path ≡ Some l.elements) (leaves_by_level N v) (λ l a. is_leaf l.path l.elements (at N v) o a);
  all = λ path es e. contains (leaves_by_level N v) (leaf path es) (leaf_found path es (at N v) e);
  ascending = all_pairs Precedes (leaves_by_level N v) (rising_whole N v (leaves_below N v) (rising N v o));
}

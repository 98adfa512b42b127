-- The patterns by level are all patterns, in order.
use Rattle.std.proofs.Common.{◌≡◌, ◌⊎◌, ◌+◌, ℕ, zero, suc, List, [], ◌∷◌, ◌++◌, map, take, length, Option, Some, None, codes, refl, sym, ap, subst, ◌∙◌, inl, inr, arith, append_assoc}
use Rattle.std.proofs.Math.Seq.{take-append_seam}
use Rattle.std.specs.Cmp.{nat_cmp_is}
use Rattle.std.specs.Str.{bytes_eq}
use Rattle.std.specs.declared.cmp.Ordering.TheVariants.{Less}
use Rattle.std.proofs.lemmas.Option.{same_Some}
use Rattle.jtree.specs.Data.{Data, list, object, Items, no_items, item, Members, no_members, member, IsTree, AreTrees, AreMembers}
use Rattle.jtree.specs.Data as tree
use Rattle.jtree.specs.Path.{Step, name, index, Path, member_at, item_at, part_by, part_at}
use Rattle.jtree.specs.PathOrder.{step_cmp, path_cmp}
use Rattle.jtree.specs.Pointer.{token}
use Rattle.jtree.specs.Internal.Lookups.{bool_cases, option_cases, same_name, member_first, member_tail, before_each}
use Rattle.jtree.specs.Internal.PathLaws.{same_step}
use Rattle.jtree.specs.Internal.Rising.{Among, Rising, among_left, among_right, among_parts, rising_join, contains, each_of, all_pairs}
use Rattle.judge.specs.Patterns.{Role, a_schema, schema_list, named_schemas, other, role_by, role_at, HasPattern, PatternAt, AreAllPatterns, ReportedPattern}
use Rattle.judge.specs.Internal.PatternsByLevel.{here, here_if, own, down, under, found, in_items, in_members, Progress, reported_at, added}
use Rattle.judge.proofs.LookupLemmas.{member_tree, item_tree}
use Rattle.judge.proofs.MapLemmas.{among_map, map_among, rising_map}

-- a path leads from a part to a schema with a pattern
abbrev LeadsToPattern : Role → Data → Path → List ℕ → Type 0
LeadsToPattern r from path p = (ks : Members) × ((role_at r path ≡ a_schema) × (part_at from path ≡ Some (object ks))) × (member_at (codes "pattern") ks ≡ Some (tree.text p))

abbrev pattern : Path → List ℕ → PatternAt
pattern p t = record { path = p; text = t }

abbrev Precedes : PatternAt → PatternAt → Type 0
Precedes f g = path_cmp f.path g.path ≡ Less

-- ---- of the schema itself

among_here : (o : Option Data) (f : PatternAt) → Among (here_if o) f → (f.path ≡ []) × (o ≡ Some (tree.text f.text))
among_here (Some (tree.text p)) f (inl e) = (ap (λ x. x.path) (sym e), ap (λ x. Some (tree.text x.text)) e)
among_here (Some (tree.text p)) f (inr a) = elim a [ ]
among_here (Some _) f a = elim a [ ]
among_here None f a = elim a [ ]

here_among : (o : Option Data) (p : List ℕ) → o ≡ Some (tree.text p) → Among (here_if o) (here p)
here_among o p e = rw e (inl refl)

rising_here : (o : Option Data) → Rising Precedes (here_if o)
rising_here (Some (tree.text p)) = (λ v a. elim a [ ], tt)
rising_here (Some _) = tt
rising_here None = tt

-- ---- of its parts

-- a pattern is one of a part
pub record IsBelow (r : Role) (d : Data) (f : PatternAt) : Type 0 where
  pub step : Step
  pub part : Data
  pub rest : PatternAt
  pub is : down step rest ≡ f
  pub there : part_by d step ≡ Some part
  pub among : Among (found (role_by r step) part) rest

part_tail : (k : List ℕ) (d : Data) (ms : Members) (s : Step) (e : Data) → AreMembers (member k d ms) → part_by (object ms) s ≡ Some e → part_by (object (member k d ms)) s ≡ Some e
part_tail k d ms (name l) e t there = member_tail k d ms l e t there
part_tail k d ms (index i) e t there = cc

part_later : (k : List ℕ) (d : Data) (ms : Members) (s : Step) (e : Data) → AreMembers (member k d ms) → part_by (object ms) s ≡ Some e → step_cmp (name k) s ≡ Less
part_later k d ms (name l) e t there = before_each k ms l e t.1 t.2 there
part_later k d ms (index i) e t there = refl

in_member : (r : Role) (ms : Members) → AreMembers ms → (f : PatternAt) → Among (in_members r ms) f → IsBelow r (object ms) f
in_member r no_members t f a = elim a [ ]
in_member r (member k d ms) t f a = elim (among_parts (under (name k) (found (role_by r (name k)) d)) (in_members r ms) f a) [
  | inl u ↦ let x = among_map (down (name k)) (found (role_by r (name k)) d) f u in record { step = name k; part = d; rest = x.0; is = x.1; there = member_first k d ms; among = x.2 }
  | inr u ↦ let x = in_member r ms t.2 f u in record { step = x.step; part = x.part; rest = x.rest; is = x.is; there = part_tail k d ms x.step x.part t x.there; among = x.among }
]

in_item : (ds : Items) (i : ℕ) (f : PatternAt) → Among (in_items ds i) f
    → (j : ℕ) × (n : ℕ) × (w : Data) × (g : PatternAt) × (j ≡ i + n) × (down (index j) g ≡ f) × (item_at n ds ≡ Some w) × Among (found a_schema w) g
in_item no_items i f a = elim a [ ]
in_item (item d ds) i f a = elim (among_parts (under (index i) (found a_schema d)) (in_items ds (i + 1)) f a) [
  | inl u ↦ let x = among_map (down (index i)) (found a_schema d) f u in (i, 0, d, x.0, omega arith, x.1, refl, x.2)
  | inr u ↦ let x = in_item ds (i + 1) f u in (x.0, suc x.1, x.2, x.3, omega (arith, x.4), x.5, x.6, x.7)
]

member_among : (r : Role) (k : List ℕ) (ms : Members) (d : Data) (g : PatternAt) → member_at k ms ≡ Some d → Among (found (role_by r (name k)) d) g → Among (in_members r ms) (down (name k) g)
member_among r k no_members d g there a = cc
member_among r k (member l e ms) d g there a = elim (bool_cases (bytes_eq k l)) [
  | inl own_name ↦
      let same : e ≡ d = same_Some e d (rw own_name at there) in
      among_left (under (name l) (found (role_by r (name l)) e)) (in_members r ms) (down (name k) g)
      (rw (← same_name k l own_name, same) (map_among (down (name k)) (found (role_by r (name k)) d) g a))
  | inr later ↦ among_right (under (name l) (found (role_by r (name l)) e)) (in_members r ms) (down (name k) g) (member_among r k ms d g (rw later at there) a)
]

item_among : (n : ℕ) (ds : Items) (i j : ℕ) (d : Data) (g : PatternAt) → j ≡ i + n → item_at n ds ≡ Some d → Among (found a_schema d) g → Among (in_items ds i) (down (index j) g)
item_among n no_items i j d g e there a = cc
item_among zero (item w ds) i j d g e there a =
    let same : w ≡ d = same_Some w d there in
    let first : j ≡ i = omega (arith, e) in
    among_left (under (index i) (found a_schema w)) (in_items ds (i + 1)) (down (index j) g) (rw (first, same) (map_among (down (index i)) (found a_schema d) g a))
item_among (suc n) (item w ds) i j d g e there a =
    among_right (under (index i) (found a_schema w)) (in_items ds (i + 1)) (down (index j) g) (item_among n ds (i + 1) j d g (omega (arith, e)) there a)

-- ---- in order

rising_under : (s : Step) (fs : List PatternAt) → Rising Precedes fs → Rising Precedes (under s fs)
rising_under s fs r = rising_map (down s) Precedes Precedes (λ f g less. same_step s f.path g.path ∙ less) fs r

earlier : (f g v w : PatternAt) (s t : Step) → down s v ≡ f → down t w ≡ g → step_cmp s t ≡ Less → Precedes f g
earlier f g v w s t e h less = rw (← e, ← h, less) refl

mutual
  rising : (r : Role) (d : Data) → IsTree d → Rising Precedes (found r d)
  rising a_schema (object ks) t =
      rising_join Precedes (own ks) (in_members a_schema ks) (rising_here (member_at (codes "pattern") ks)) (rising_members a_schema ks t)
      (λ f g a b. let x = among_here (member_at (codes "pattern") ks) f a in let y = in_member a_schema ks t g b in rw (x.0, ← y.is) refl)
  rising schema_list (list ds) t = rising_items ds t 0
  rising named_schemas (object ms) t = rising_members named_schemas ms t
  rising _ _ t = tt

  rising_items : (ds : Items) → AreTrees ds → (i : ℕ) → Rising Precedes (in_items ds i)
  rising_items no_items t i = tt
  rising_items (item d ds) t i = rising_join Precedes (under (index i) (found a_schema d)) (in_items ds (i + 1)) (rising_under (index i) (found a_schema d) (rising a_schema d t.0)) (rising_items ds t.1 (i + 1))
      (λ f g a b.
      let x = among_map (down (index i)) (found a_schema d) f a in
      let y = in_item ds (i + 1) g b in
      earlier f g x.0 y.3 (index i) (index y.0) x.1 y.5 (sym (nat_cmp_is i y.0 Less (omega (arith, y.4)))))

  rising_members : (r : Role) (ms : Members) → AreMembers ms → Rising Precedes (in_members r ms)
  rising_members r no_members t = tt
  rising_members r (member k d ms) t =
      rising_join Precedes (under (name k) (found (role_by r (name k)) d)) (in_members r ms) (rising_under (name k) (found (role_by r (name k)) d) (rising (role_by r (name k)) d t.0)) (rising_members r ms t.2)
      (λ f g a b.
      let x = among_map (down (name k)) (found (role_by r (name k)) d) f a in
      let y = in_member r ms t.2 g b in
      earlier f g x.0 y.rest (name k) y.step x.1 y.is (part_later k d ms y.step y.part t y.there))

-- ---- what is found are the patterns

part_tree : (d : Data) (s : Step) (e : Data) → IsTree d → part_by d s ≡ Some e → IsTree e
part_tree (object ms) (name k) e t there = member_tree k ms t e there
part_tree (list ds) (index i) e t there = item_tree i ds e t there
part_tree _ s e t there = cc

-- a pattern that is found is of the schema itself, or of a part
here_or_below : (r : Role) (d : Data) → IsTree d → (f : PatternAt) → Among (found r d) f → ((f.path ≡ []) × LeadsToPattern r d [] f.text) ⊎ IsBelow r d f
here_or_below a_schema (object ks) t f a = elim (among_parts (own ks) (in_members a_schema ks) f a) [
  | inl o ↦ let x = among_here (member_at (codes "pattern") ks) f o in inl (x.0, (ks, (refl, refl), x.1))
  | inr b ↦ inr (in_member a_schema ks t f b)
]
here_or_below schema_list (list ds) t f a =
    let x = in_item ds 0 f a in
    let same : x.0 ≡ x.1 = omega (arith, x.4) in
    inr (record { step = index x.0; part = x.2; rest = x.3; is = x.5; there = rw same x.6; among = x.7 })
here_or_below named_schemas (object ms) t f a = inr (in_member named_schemas ms t f a)
here_or_below _ _ t f a = elim a [ ]

further : (r : Role) (d : Data) (s : Step) (e : Data) (path : Path) (p : List ℕ) → part_by d s ≡ Some e → LeadsToPattern (role_by r s) e path p → LeadsToPattern r d (s ∷ path) p
further r d s e path p there h = (h.0, (h.1.0, rw there h.1.1), h.2)

is_pattern : (path : Path) (p : List ℕ) (r : Role) (d : Data) → IsTree d → Among (found r d) (pattern path p) → LeadsToPattern r d path p
is_pattern [] p r d t a = elim (here_or_below r d t (pattern [] p) a) [
  | inl h ↦ h.1
  | inr x ↦ let e : x.step ∷ x.rest.path ≡ [] = ap (λ f. f.path) x.is in cc
]
is_pattern (s ∷ path) p r d t a = elim (here_or_below r d t (pattern (s ∷ path) p) a) [
  | inl h ↦ let e : s ∷ path ≡ [] = h.0 in cc
  | inr x ↦
      let e : x.step ∷ x.rest.path ≡ s ∷ path = ap (λ f. f.path) x.is in
      let same : x.step ≡ s = cc in
      let rest_path : x.rest.path ≡ path = cc in
      let rest : x.rest ≡ pattern path p = λ i. pattern (rest_path i) (ap (λ f. f.text) x.is i) in
      let there : part_by d s ≡ Some x.part = subst (λ q. part_by d q ≡ Some x.part) same x.there in
      further r d s x.part path p there
      (is_pattern path p (role_by r s) x.part (part_tree d s x.part t there) (subst (λ q. Among (found (role_by r q) x.part) (pattern path p)) same (subst (Among (found (role_by r x.step) x.part)) rest x.among)))
]

deeper : (r : Role) (s : Step) (d e : Data) (g : PatternAt) → part_by d s ≡ Some e → Among (found (role_by r s) e) g → Among (found r d) (down s g)
deeper a_schema (name k) (object ks) e g there a = among_right (own ks) (in_members a_schema ks) (down (name k) g) (member_among a_schema k ks e g there a)
deeper schema_list (index i) (list ds) e g there a = item_among i ds 0 i e g (omega arith) there a
deeper named_schemas (name k) (object ms) e g there a = member_among named_schemas k ms e g there a
deeper a_schema (index i) d e g there a = elim a [ ]
deeper schema_list (name k) d e g there a = elim a [ ]
deeper named_schemas (index i) d e g there a = elim a [ ]
deeper other s d e g there a = elim a [ ]
deeper a_schema (name k) _ e g there a = cc
deeper schema_list (index i) _ e g there a = cc
deeper named_schemas (name k) _ e g there a = cc

is_found : (path : Path) (p : List ℕ) (r : Role) (d : Data) → LeadsToPattern r d path p → Among (found r d) (pattern path p)
is_found [] p r d h =
    let same : d ≡ object h.0 = same_Some d (object h.0) h.1.1 in
    let role : r ≡ a_schema = h.1.0 in
    rw (role, same) (among_left (own h.0) (in_members a_schema h.0) (pattern [] p) (here_among (member_at (codes "pattern") h.0) p h.2))
is_found (s ∷ path) p r d h = elim (option_cases (part_by d s)) [
  | inl none ↦ let x = rw none at h.1.1 in cc
  | inr e ↦ deeper r s d e.0 (pattern path p) e.1 (is_found path p (role_by r s) e.0 (h.0, (h.1.0, rw e.1 at h.1.1), h.2))
]

pub all_patterns : (raw : Data) → IsTree raw → AreAllPatterns (HasPattern raw) (found a_schema raw)
all_patterns raw t = record {
  each = each_of (λ (f : PatternAt). HasPattern raw f.path f.text) (found a_schema raw) (λ f a. is_pattern f.path f.text a_schema raw t a);
  all = λ path p h. contains (found a_schema raw) (pattern path p) (is_found path p a_schema raw h);
  ascending = all_pairs Precedes (found a_schema raw) (rising a_schema raw t);
}

-- ---- how a walk reports them

reported_under : (at : List ℕ) (s : Step) (fs : List PatternAt) → map (reported_at at) (under s fs) ≡ map (reported_at (at ++ token s)) fs
reported_under at s [] = refl
reported_under at s (f ∷ fs) = rw (reported_under at s fs) (rw append_assoc refl)

-- the pointer is cut again to what it was
pub left : (at : List ℕ) (rs : List ReportedPattern) (s : Step) (fs : List PatternAt) (q : Progress) (cut : List ℕ) → q ≡ added (record { pointer = at ++ token s; reported = rs }) fs
    → cut ≡ take (length at) q.pointer → record { pointer = cut; reported = q.reported } ≡ added (record { pointer = at; reported = rs }) (under s fs)
left at rs s fs q cut e f = rw (f, e, take-append_seam, reported_under) refl

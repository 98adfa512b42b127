-- The failures by level are all faults, in order.
use Rattle.std.specs.Prelude.{◌≡◌, ◌++◌, ◌&&◌, ℕ, zero, suc, List, [], ◌∷◌, Bool, true, false, Option, Some, None, option_map, if◌then◌else◌, not, is_none}
use Rattle.std.proofs.Common.{◌⊎◌, arith, refl, sym, ap, subst, ◌∙◌, inl, inr}
use Rattle.std.proofs.lemmas.Option.{same_Some}
use Rattle.jtree.specs.Data.{Data, Items, no_items, item, IsTree, AreMembers, AreTrees}
use Rattle.jtree.specs.Data as tree
use Rattle.jtree.specs.Path.{Step, name, index, Path, part_by, member_at, item_at}
use Rattle.jtree.specs.Internal.Lookups.{bool_cases, option_cases}
use Rattle.schema.specs.Nodes.Node.{Node, node, object, map as map_of, list, Fields, IsNode, AreOrdered}
use Rattle.schema.specs.Nodes.ByPlace.{Declared, field_at}
use Rattle.jtree.specs.Internal.Rising.{Among, among_right, contains, each_of, all_pairs}
use Rattle.stored.specs.Objects.Parts.{Pair, fields, values, items, whole, pair, node_by, at, part_by_path, leads}
use Rattle.stored.specs.Objects.Fault.{Test, F12, F13, F15, fails, lacks_name, repeats, are_alike, has_alike_before, finds, HasFault}
use Rattle.stored.specs.Objects.AllFaults.{Failure, AreFailures}
use Rattle.stored.specs.Objects.Becomes.{cuts}
use Rattle.stored.specs.Objects.StrictFaults.{IsDropped}
use Rattle.stored.specs.Internal.FailuresByLevel.{FailsWithin, asks, here, own, Below, joined, value_parts, item_parts, parts, field_parts, found}
use Rattle.stored.proofs.FieldLemmas.{field_node}
use Rattle.stored.proofs.DroppedLemmas.{cut_is, dropped_here, dropped_deeper, path_uncut}
use Rattle.stored.proofs.PartLemmas.{part_in, part_is, leads_both, led_on}
use Rattle.stored.proofs.JoinedLemmas.{failure, Precedes, lookup, joined_failure}
use Rattle.stored.proofs.LevelLemmas.{among_whole, own_among, repeat_or, or_repeat, member_tree, dropped_at, of_field, of_name, lookup_fields, lookup_values, lookup_items, no_index_of_fields, no_index_of_values, no_name_of_items, parts_rising, found_rising}

-- ---- a value beside its node

abbrev parts_in : Bool → (ℕ → Bool) → Pair → List Below
parts_in strict again (fields fs preserves ms) = field_parts strict (strict && not preserves) fs ms
parts_in strict again (values N ms) = value_parts (λ d. found strict false N d) ms
parts_in strict again (items N ds) = item_parts (λ i d. found strict (again i) N d) 0 ds
parts_in strict again whole = []

abbrev IsSound : Pair → Type 0
IsSound (fields fs preserves ms) = AreOrdered fs × AreMembers ms
IsSound (values N ms) = IsNode N × AreMembers ms
IsSound (items N ds) = IsNode N × AreTrees ds
IsSound whole = Unit {0}

sound : (N : Node) (v : Data) → IsNode N → IsTree v → IsSound (pair N v)
sound (node nullable description (object fs preserves type bounds cs)) (tree.object ms) n t = (n, t)
sound (node nullable description (map_of N type bounds)) (tree.object ms) n t = (n, t)
sound (node nullable description (list N type keys bounds)) (tree.list ds) n t = (n, t)
sound _ _ n t = tt

parts_are : (strict : Bool) (N : Node) (v : Data) → parts strict N v ≡ parts_in strict (repeats N v) (pair N v)
parts_are strict (node nullable description (object fs preserves type bounds cs)) (tree.object ms) = refl
parts_are strict (node nullable description (map_of N type bounds)) (tree.object ms) = refl
parts_are strict (node nullable description (list N type keys bounds)) (tree.list ds) = refl
parts_are strict _ _ = refl

-- an item that repeats another is there
item_there : (ds : Items) (again : Bool) (i : ℕ) (alike : Data → Data → Bool) → has_alike_before alike i ds (item_at i ds) ≡ true → (w : Data) × (item_at i ds ≡ Some w)
item_there ds again i alike e = elim (option_cases (item_at i ds)) [
  | inl none ↦ let f = rw none at e in cc
  | inr some ↦ some
]

repeated_there : (N : Node) (v : Data) (i : ℕ) → repeats N v i ≡ true → (M : Node) × (w : Data) × (node_by (pair N v) (index i) ≡ Some M) × (part_in (pair N v) (index i) ≡ Some w)
repeated_there (node nullable description (list N type keys bounds)) (tree.list ds) i e = let w = item_there ds true i (are_alike type keys) e in (N, w.0, refl, w.1)
repeated_there _ _ i e = cc

pub item_tree : (i : ℕ) (ds : Items) (w : Data) → AreTrees ds → item_at i ds ≡ Some w → IsTree w
item_tree i no_items w t e = cc
item_tree zero (item d ds) w t e = subst IsTree (same_Some d w e) t.0
item_tree (suc i) (item d ds) w t e = item_tree i ds w t.1 e

sound_below : (P : Pair) → IsSound P → (s : Step) (M : Node) (w : Data) → node_by P s ≡ Some M → part_in P s ≡ Some w → IsNode M × IsTree w
sound_below (fields fs preserves ms) h (name k) M w e p = elim (option_cases (field_at k fs)) [
  | inl none ↦ let x = rw none at e in cc
  | inr f ↦ let x = rw f.1 at e in (subst IsNode (same_Some f.0.node M x) (field_node k fs f.0 h.0 f.1), member_tree k ms w h.1 p)
]
sound_below (values N ms) h (name k) M w e p = (subst IsNode (same_Some N M e) h.0, member_tree k ms w h.1 p)
sound_below (items N ds) h (index i) M w e p = (subst IsNode (same_Some N M e) h.0, item_tree i ds w h.1 p)
sound_below _ h s M w e p = cc

-- ---- a failure below a value is found by its node, or below a part

data IsFound (strict : Bool) (P : Pair) (again : ℕ → Bool) (s : Step) (p : Path) (t : Test) : Type 0 where
  missing : (k : List ℕ) → s ≡ name k → p ≡ [] → t ≡ F12 → lacks_name P k ≡ true → IsFound strict P again s p t
  repeated : (i : ℕ) → s ≡ index i → p ≡ [] → t ≡ F13 → again i ≡ true → IsFound strict P again s p t
  undeclared : (d : Data) → strict ≡ true → p ≡ [] → t ≡ F15 → cuts P s ≡ true → part_in P s ≡ Some d → IsFound strict P again s p t
  below : (M : Node) (w : Data) → node_by P s ≡ Some M → part_in P s ≡ Some w → Among (found strict false M w) (failure p t) → IsFound strict P again s p t

at_a_field : (strict : Bool) (fs : Fields) (preserves : Bool) (ms : tree.Members) (again : ℕ → Bool) (k : List ℕ) (p : Path) (t : Test) (f : Declared) → field_at k fs ≡ Some f
    → Among (of_field strict ms k f) (failure p t) → IsFound strict (fields fs preserves ms) again (name k) p t
at_a_field strict fs preserves ms again k p t f e a = elim (option_cases (member_at k ms)) [
  | inl none ↦ let b : Among (if f.required then here F12 ∷ [] else []) (failure p t) = rw none at a in elim (bool_cases f.required) [
    | inl h ↦ let c : (here F12 ≡ failure p t) ⊎ ⊥ = rw h at b in elim c [
      | inl same ↦ missing k refl (ap (λ x. x.path) (sym same)) (ap (λ x. x.test) (sym same)) (rw (e, h, none) refl)
      | inr no_more ↦ elim no_more [ ]
    ]
    | inr h ↦ let c : ⊥ = rw h at b in elim c [ ]
  ]
  | inr d ↦ below f.node d.0 (rw e refl) d.1 (rw d.1 at a)
]

both_true : (a b : Bool) → a && b ≡ true → (a ≡ true) × (b ≡ true)
both_true true b e = (refl, e)
both_true false b e = absurd (cc)

-- a member that is dropped is one where any are
is_dropped : (drops : Bool) (o : Option Data) (gs : List Failure) → dropped_at drops o ≡ Some gs → (drops ≡ true) × ((d : Data) × (o ≡ Some d)) × (gs ≡ here F15 ∷ [])
is_dropped false o gs e = cc
is_dropped true None gs e = cc
is_dropped true (Some d) gs e = (refl, (d, refl), sym (same_Some (here F15 ∷ []) gs e))

at_no_field : (strict : Bool) (fs : Fields) (preserves : Bool) (ms : tree.Members) (again : ℕ → Bool) (k : List ℕ) (p : Path) (t : Test) (gs : List Failure) → field_at k fs ≡ None
    → dropped_at (strict && not preserves) (member_at k ms) ≡ Some gs → Among gs (failure p t) → IsFound strict (fields fs preserves ms) again (name k) p t
at_no_field strict fs preserves ms again k p t gs e h a =
    let x = is_dropped (strict && not preserves) (member_at k ms) gs h in
    let drops = both_true strict (not preserves) x.0 in
    let b : (here F15 ≡ failure p t) ⊎ ⊥ = subst (λ fs. Among fs (failure p t)) x.2 a in
    elim b [
      | inl same ↦ undeclared x.1.0 drops.0 (ap (λ y. y.path) (sym same)) (ap (λ y. y.test) (sym same)) (rw (drops.1, e) refl) x.1.1
      | inr no_more ↦ elim no_more [ ]
    ]

inward : (strict : Bool) (P : Pair) (again : ℕ → Bool) → IsSound P → (s : Step) (p : Path) (t : Test) (gs : List Failure) → lookup s (parts_in strict again P) ≡ Some gs → Among gs (failure p t) → IsFound strict P again s p t
inward strict (fields fs preserves ms) again h (name k) p t gs e a =
    let level : of_name strict (strict && not preserves) (field_at k fs) ms k ≡ Some gs = sym (lookup_fields strict (strict && not preserves) fs ms h.0 h.1 k) ∙ e in
    elim (option_cases (field_at k fs)) [
      | inl none ↦ at_no_field strict fs preserves ms again k p t gs none (rw none at level) a
      | inr f ↦ let x = rw f.1 at level in at_a_field strict fs preserves ms again k p t f.0 f.1 (subst (λ xs. Among xs (failure p t)) (sym (same_Some (of_field strict ms k f.0) gs x)) a)
    ]
inward strict (fields fs preserves ms) again h (index i) p t gs e a = let none = sym (no_index_of_fields strict (strict && not preserves) fs ms i) ∙ e in cc
inward strict (values N ms) again h (name k) p t gs e a =
    let level : option_map (λ d. found strict false N d) (member_at k ms) ≡ Some gs = sym (lookup_values (λ d. found strict false N d) ms k) ∙ e in
    elim (option_cases (member_at k ms)) [
      | inl none ↦ let x = rw none at level in cc
      | inr d ↦ let x = rw d.1 at level in below N d.0 refl d.1 (subst (λ xs. Among xs (failure p t)) (sym (same_Some (found strict false N d.0) gs x)) a)
    ]
inward strict (values N ms) again h (index i) p t gs e a = let none = sym (no_index_of_values (λ d. found strict false N d) ms i) ∙ e in cc
inward strict (items N ds) again h (name k) p t gs e a = let none = sym (no_name_of_items (λ i d. found strict (again i) N d) 0 ds k) ∙ e in cc
inward strict (items N ds) again h (index i) p t gs e a =
    let level : option_map (λ d. found strict (again i) N d) (item_at i ds) ≡ Some gs = sym (lookup_items (λ i d. found strict (again i) N d) ds 0 i i (omega arith)) ∙ e in
    elim (option_cases (item_at i ds)) [
      | inl none ↦ let x = rw none at level in cc
      | inr d ↦
          let x = rw d.1 at level in
          let b = subst (λ xs. Among xs (failure p t)) (sym (same_Some (found strict (again i) N d.0) gs x)) a in
          elim (repeat_or (again i) N d.0 (parts strict N d.0) p t b) [
            | inl r ↦ repeated i refl r.0 r.1 r.2
            | inr r ↦ below N d.0 refl d.1 r
          ]
    ]
inward strict whole again h s p t gs e a = cc

abbrev Led : (strict : Bool) (P : Pair) (again : ℕ → Bool) (s : Step) (p : Path) (t : Test) → Type 0
Led strict P again s p t = (gs : List Failure) × (lookup s (parts_in strict again P) ≡ Some gs) × Among gs (failure p t)

never : (b : Bool) → b && false ≡ true → ⊥
never true e = cc
never false e = cc

lacking : (strict : Bool) (P : Pair) (again : ℕ → Bool) → IsSound P → (k : List ℕ) → lacks_name P k ≡ true → Led strict P again (name k) [] F12
lacking strict (fields fs preserves ms) again h k e = elim (option_cases (field_at k fs)) [
  | inl none ↦ let x = rw none at e in cc
  | inr f ↦ let x : f.0.required && is_none (member_at k ms) ≡ true = rw f.1 at e in elim (option_cases (member_at k ms)) [
    | inl none ↦ elim (bool_cases f.0.required) [
      | inl r ↦ (here F12 ∷ [], lookup_fields strict (strict && not preserves) fs ms h.0 h.1 k ∙ rw (f.1, none, r) refl, inl refl)
      | inr r ↦ let y = rw r at x in cc
    ]
    | inr d ↦ let y = rw d.1 at x in let z = never f.0.required y in elim z [ ]
  ]
]
lacking strict _ again h k e = cc

dropping : (P : Pair) (again : ℕ → Bool) → IsSound P → (s : Step) (d : Data) → cuts P s ≡ true → part_in P s ≡ Some d → Led true P again s [] F15
dropping (fields fs preserves ms) again h (name k) d e there =
    let both = both_true (not preserves) (is_none (field_at k fs)) e in
    elim (option_cases (field_at k fs)) [
      | inl none ↦ (here F15 ∷ [], lookup_fields true (true && not preserves) fs ms h.0 h.1 k ∙ rw (none, there, both.0) refl, inl refl)
      | inr f ↦ let x = rw f.1 at both.1 in cc
    ]
dropping _ again h s d e there = cc

leading : (strict : Bool) (P : Pair) (again : ℕ → Bool) → IsSound P → (s : Step) (M : Node) (w : Data) → node_by P s ≡ Some M → part_in P s ≡ Some w
    → (gs : List Failure) × (lookup s (parts_in strict again P) ≡ Some gs) × ((f : Failure) → Among (found strict false M w) f → Among gs f)
leading strict (fields fs preserves ms) again h (name k) M w e d = elim (option_cases (field_at k fs)) [
  | inl none ↦ let x = rw none at e in cc
  | inr f ↦
      let x = rw f.1 at e in
      (found strict false f.0.node w, lookup_fields strict (strict && not preserves) fs ms h.0 h.1 k ∙ rw (f.1, d) refl, λ g a. subst (λ N. Among (found strict false N w) g) (sym (same_Some f.0.node M x)) a)
]
leading strict (values N ms) again h (name k) M w e d =
    (found strict false N w, lookup_values (λ x. found strict false N x) ms k ∙ rw d refl, λ g a. subst (λ L. Among (found strict false L w) g) (sym (same_Some N M e)) a)
leading strict (items N ds) again h (index i) M w e d = (
  found strict (again i) N w,
  lookup_items (λ j x. found strict (again j) N x) ds 0 i i (omega arith) ∙ rw d refl,
  λ g a. or_repeat (again i) N w (parts strict N w) g (subst (λ L. Among (found strict false L w) g) (sym (same_Some N M e)) a),
)
leading strict _ again h s M w e d = cc

repeating : (strict : Bool) (P : Pair) (again : ℕ → Bool) (i : ℕ) (M : Node) (w : Data) → node_by P (index i) ≡ Some M → part_in P (index i) ≡ Some w → again i ≡ true → Led strict P again (index i) [] F13
repeating strict (items N ds) again i M w e d r = (
  found strict (again i) N w,
  lookup_items (λ j x. found strict (again j) N x) ds 0 i i (omega arith) ∙ rw d refl,
  own_among (again i) N w (parts strict N w) F13 r,
)
repeating strict _ again i M w e d r = cc

-- ---- what a path leads to

both_lead : (N : Node) (v : Data) (s : Step) (M : Node) (w : Data) → node_by (pair N v) s ≡ Some M → part_in (pair N v) s ≡ Some w → leads N v s ≡ Some (at M w)
both_lead N v s M w e d = let there = part_is N v s M e ∙ d in rw (there, e) refl

-- ---- all faults

pub deeper : (N : Node) (v : Data) (s : Step) (M : Node) (w : Data) (p : Path) (t : Test) → leads N v s ≡ Some (at M w) → HasFault M w p t → HasFault N v (s ∷ p) t
deeper N v s M w p t e f = record {
  before = s ∷ f.before;
  last = f.last;
  is = ap (λ x. s ∷ x) f.is;
  node = f.node;
  value = f.value;
  leads_there = rw e f.leads_there;
  found = f.found;
}

found_here : (N : Node) (v : Data) (last : Path) (t : Test) → finds N v last t ≡ true → HasFault N v last t
found_here N v last t e = record { before = []; last = last; is = refl; node = N; value = v; leads_there = refl; found = e }

fails_own : (N : Node) (v : Data) (t : Test) → asks false t N v ≡ true → fails t N v ≡ true
fails_own N v F13 e = cc
fails_own N v _ e = e

asked : (N : Node) (v : Data) (t : Test) → fails t N v ≡ true → asks false t N v ≡ true
asked N v F13 e = cc
asked N v _ e = e

-- a fault, or in a strict walk a member that is dropped
abbrev IsFault : Bool → Node → Data → Path → Test → Type 0
IsFault strict N v p t = HasFault N v p t ⊎ ((strict ≡ true) × (t ≡ F15) × IsDropped N v p)

fault_deeper : (strict : Bool) (N : Node) (v : Data) (s : Step) (M : Node) (w : Data) (p : Path) (t : Test) → leads N v s ≡ Some (at M w) → IsFault strict M w p t → IsFault strict N v (s ∷ p) t
fault_deeper strict N v s M w p t e (inl f) = inl (deeper N v s M w p t e f)
fault_deeper strict N v s M w p t e (inr d) = inr (d.0, d.1, dropped_deeper N v s M w p e d.2)

is_fault : (strict : Bool) (p : Path) (t : Test) (N : Node) (v : Data) → IsNode N → IsTree v → Among (found strict false N v) (failure p t) → IsFault strict N v p t
is_fault strict [] t N v n i a = elim (among_whole false N v (parts strict N v) (parts_rising strict N v n i) (failure [] t) a) [
  | inl o ↦ inl (found_here N v [] t (fails_own N v t o.1))
  | inr s ↦ let e = s.is in cc
]
is_fault strict (q ∷ p) t N v n i a = elim (among_whole false N v (parts strict N v) (parts_rising strict N v n i) (failure (q ∷ p) t) a) [
  | inl o ↦ let e = o.0 in cc
  | inr s ↦
      let e = s.is in
      let step : s.step ≡ q = cc in
      let rest : s.rest ≡ p = cc in
      let there : lookup q (parts_in strict (repeats N v) (pair N v)) ≡ Some s.failures =
      subst (λ x. lookup x (parts_in strict (repeats N v) (pair N v)) ≡ Some s.failures) step (subst (λ bs. lookup s.step bs ≡ Some s.failures) (parts_are strict N v) s.there) in
      elim (inward strict (pair N v) (repeats N v) (sound N v n i) q p t s.failures there (subst (λ x. Among s.failures (failure x t)) rest s.among)) [
        | missing k qk p0 t12 h ↦ rw (qk, p0, t12) (inl (found_here N v (name k ∷ []) F12 h))
        | repeated j qj p0 t13 h ↦ rw (qj, p0, t13) (inl (found_here N v (index j ∷ []) F13 h))
        | undeclared d is_strict p0 t15 c h ↦ rw (p0, t15) (inr (is_strict, refl, dropped_here N v q d c (cut_is N v q c ∙ h)))
        | below M w nb pi b ↦
            let u = sound_below (pair N v) (sound N v n i) q M w nb pi in
            fault_deeper strict N v q M w p t (both_lead N v q M w nb pi) (is_fault strict p t M w u.0 u.1 b)
      ]
]

found_below : (strict : Bool) (N : Node) (v : Data) (s : Step) (p : Path) (t : Test) → Led strict (pair N v) (repeats N v) s p t → Among (found strict false N v) (failure (s ∷ p) t)
found_below strict N v s p t l =
    among_right (own false N v) (joined (parts strict N v)) (failure (s ∷ p) t)
    (joined_failure (parts strict N v) s p t l.0 (subst (λ bs. lookup s bs ≡ Some l.0) (sym (parts_are strict N v)) l.1) l.2)

here_found : (strict : Bool) (N : Node) (v : Data) → IsNode N → IsTree v → (last : Path) (t : Test) → finds N v last t ≡ true → Among (found strict false N v) (failure last t)
here_found strict N v n i [] t e = own_among false N v (parts strict N v) t (asked N v t e)
here_found strict N v n i (name k ∷ []) F12 e = found_below strict N v (name k) [] F12 (lacking strict (pair N v) (repeats N v) (sound N v n i) k e)
here_found strict N v n i (index j ∷ []) F13 e =
    let r = repeated_there N v j e in found_below strict N v (index j) [] F13 (repeating strict (pair N v) (repeats N v) j r.0 r.1 r.2 r.3 e)
here_found strict N v n i _ _ e = cc

-- what is found below the part to which a path leads
below_found : (strict : Bool) (b last : Path) (t : Test) (N : Node) (v : Data) (M : Node) (w : Data) → IsNode N → IsTree v → part_by_path leads (at N v) b ≡ Some (at M w)
    → ((K : Node) (u : Data) → IsNode K → IsTree u → K ≡ M → u ≡ w → Among (found strict false K u) (failure last t)) → Among (found strict false N v) (failure (b ++ last) t)
below_found strict [] last t N v M w n i e f =
    let x : N ≡ M = cc in
    let y : v ≡ w = cc in
    f N v n i x y
below_found strict (s ∷ b) last t N v M w n i e f =
    let l = led_on leads N v s b M w e in
    let both = leads_both N v s l.0 l.1 l.2 in
    let u = sound_below (pair N v) (sound N v n i) s l.0 l.1 both.0 both.1 in
    let g = leading strict (pair N v) (repeats N v) (sound N v n i) s l.0 l.1 both.0 both.1 in
    found_below strict N v s (b ++ last) t (g.0, g.1, g.2 (failure (b ++ last) t) (below_found strict b last t l.0 l.1 M w u.0 u.1 l.3 f))

fault_found : (strict : Bool) (N : Node) (v : Data) → IsNode N → IsTree v → (path : Path) (t : Test) → HasFault N v path t → Among (found strict false N v) (failure path t)
fault_found strict N v n i path t h = subst (λ p. Among (found strict false N v) (failure p t)) (sym h.is)
    (below_found strict h.before h.last t N v h.node h.value n i h.leads_there (λ K u m j x y. here_found strict K u m j h.last t (rw (x, y) h.found)))

dropped_found : (N : Node) (v : Data) → IsNode N → IsTree v → (path : Path) → IsDropped N v path → Among (found true false N v) (failure path F15)
dropped_found N v n i path h = subst (λ p. Among (found true false N v) (failure p F15)) (sym h.is)
    (below_found true h.before (h.last ∷ []) F15 N v h.node h.value n i (path_uncut h.before N v h.node h.value h.leads_there)
    (λ K u m j x y.
    let c : cuts (pair K u) h.last ≡ true = rw (x, y) h.cut in
    let there : part_by u h.last ≡ Some h.member = rw y h.there in
    found_below true K u h.last [] F15 (dropping (pair K u) (repeats K u) (sound K u m j) h.last h.member c (sym (cut_is K u h.last c) ∙ there))))

is_found : (strict : Bool) (N : Node) (v : Data) → IsNode N → IsTree v → (path : Path) (t : Test) → FailsWithin strict N v path t → Among (found strict false N v) (failure path t)
is_found false N v n i path t h = fault_found false N v n i path t h
is_found true N v n i path t (inl h) = fault_found true N v n i path t h
is_found true N v n i path t (inr d) = rw d.0 (dropped_found N v n i path d.1)

fails_within : (strict : Bool) (N : Node) (v : Data) (path : Path) (t : Test) → IsFault strict N v path t → FailsWithin strict N v path t
fails_within false N v path t (inl f) = f
fails_within false N v path t (inr d) = let e = d.0 in cc
fails_within true N v path t (inl f) = inl f
fails_within true N v path t (inr d) = inr (d.1, d.2)

pub all_failures : (strict : Bool) (N : Node) (v : Data) → IsNode N → IsTree v → AreFailures (FailsWithin strict N v) (found strict false N v)
all_failures strict N v n i = record {
  each = each_of (λ f. FailsWithin strict N v f.path f.test) (found strict false N v) (λ f a. fails_within strict N v f.path f.test (is_fault strict f.path f.test N v n i a));
  all = λ path t h. contains (found strict false N v) (failure path t) (is_found strict N v n i path t h);
  ascending = all_pairs Precedes (found strict false N v) (found_rising strict N v n i);
}

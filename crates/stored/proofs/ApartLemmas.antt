-- The elements of no leaf of a valid object begin those of another.
use Rattle.std.specs.Prelude.{◌≡◌, ◌++◌, ℕ, zero, suc, List, [], ◌∷◌, map, Bool, true, false, Option, Some, None, option_map, codes}
use Rattle.std.proofs.Common.{refl, sym, ap, subst, ◌∙◌, inl, inr}
use Rattle.std.specs.Str.{bytes_eq}
use Rattle.std.specs.declared.cmp.Ordering.TheVariants.{Less}
use Rattle.std.proofs.lemmas.Bool.{not-true, and_parts, or_right}
use Rattle.std.proofs.lemmas.Option.{same_Some}
use Rattle.std.proofs.lemmas.List.Elements.{All-contains}
use Rattle.jtree.specs.Data.{Data, Items, no_items, item, Members, no_members, member, IsTree, AreMembers, AreTrees}
use Rattle.jtree.specs.Data as tree
use Rattle.jtree.specs.Path.{Step, name, index, Path, part_by, member_at, item_at}
use Rattle.jtree.specs.PathOrder.{path_cmp}
use Rattle.jtree.specs.Equality.{equal_by}
use Rattle.jtree.specs.Text.{compact}
use Rattle.jtree.specs.declared.equality.Equality.{Equality}
use Rattle.jtree.specs.Internal.Lookups.{bool_cases, same_name, own_name}
use Rattle.jtree.specs.Internal.EqualityLaws.{equal_itself}
use Rattle.jtree.specs.Internal.PathLaws.{same_step}
use Rattle.jtree.specs.Internal.Rising.{Among, Rising, rising, all_pairs, contains}
use Rattle.schema.specs.Document.Places.{Place, property, map_value, items}
use Rattle.schema.specs.Document.Places as places
use Rattle.schema.specs.Document.Texts.{is_among}
use Rattle.schema.specs.Nodes.Node.{Node, node, object, map as map_of, list}
use Rattle.schema.specs.Nodes.ByPlace.{node_below, node_at}
use Rattle.schema.specs.Nodes.Items.{AreDistinct, HasKeys, HasSoundItems}
use Rattle.schema.specs.declared.node.Bounds.{Bounds}
use Rattle.schema.specs.declared.node.ListType.{ListType}
use Rattle.schema.specs.declared.node.ListType.TheVariants as list_type
use Rattle.stored.specs.Objects.Parts.{Part, at, free, value_of, pair, node_by, leads}
use Rattle.stored.specs.Objects.Fault.{agree_at, agree, are_alike, IsValid}
use Rattle.stored.specs.Objects.StoredByParts.{IsValidHere, are_apart}
use Rattle.stored.specs.Objects.Leaves.{is_divided, members_among, item_element, element, leaf_at, LeafAt, AreLeaves, BeginsNone, AreApart}
use Rattle.stored.proofs.ValidLemmas.{unlike, faultless, here_from}
use Rattle.stored.proofs.LevelLemmas.{member_tree}
use Rattle.stored.proofs.FaultLemmas.{item_tree, deeper}
use Rattle.stored.proofs.PartLemmas.{leads_both, part_is}
use Rattle.stored.proofs.PrunedAgain.{below_place}
use Rattle.stored.proofs.LeafLemmas.{members_of_some}
use Rattle.stored.proofs.LeafLevelLemmas.{mapped, among_map, undivided, down}

-- compact texts distinguish trees
abbrev pub TextsAreUnique : Type 0
TextsAreUnique = (u v : Data) → IsTree u → IsTree v → compact u ≡ compact v → u ≡ v

-- ---- items that can be distinguished

agrees_itself : (a : Equality) (o : Option Data) → agree_at a o o ≡ true
agrees_itself a None = refl
agrees_itself a (Some v) = equal_itself a v

kept : (keys : List (List ℕ)) (k : List ℕ) (ms : Members) → is_among k keys ≡ true → member_at k (members_among keys ms) ≡ member_at k ms
kept keys k no_members e = refl
kept keys k (member l d ms) e = elim (bool_cases (bytes_eq k l)) [
  | inl t ↦ let there : is_among l keys ≡ true = subst (λ n. is_among n keys ≡ true) (same_name k l t) e in rw (there, t) refl
  | inr f ↦ rw f (elim (bool_cases (is_among l keys)) [
    | inl there ↦ rw (there, f) (kept keys k ms e)
    | inr none ↦ rw none (kept keys k ms e)
  ])
]

agree_on : (a : Equality) (ks keys : List (List ℕ)) (ms ns : Members) → ((k : List ℕ) → is_among k ks ≡ true → is_among k keys ≡ true) → members_among keys ms ≡ members_among keys ns → agree a ks ms ns ≡ true
agree_on a [] keys ms ns h e = refl
agree_on a (k ∷ ks) keys ms ns h e =
    let there : is_among k keys ≡ true = h k (rw own_name refl) in
    let same : member_at k ms ≡ member_at k ns = sym (kept keys k ms there) ∙ (ap (member_at k) e ∙ kept keys k ns there) in
    rw (same, agrees_itself a (member_at k ns)) (agree_on a ks keys ms ns (λ l b. h l (or_right (bytes_eq l k) (is_among l ks) b)) e)

-- an item of a map list is an object
keyed_object : (N : Node) (keys : List (List ℕ)) (v : Data) → HasKeys N keys → IsValidHere N v → (ms : Members) × (v ≡ tree.object ms)
keyed_object (node nullable t (object fs preserves type bounds cs)) keys (tree.object ms) h here = (ms, refl)
keyed_object (node nullable t (object fs preserves type bounds cs)) keys tree.null h here = let f : ◌≡◌ {A = Bool} true false = sym here ∙ h.0 in absurd (cc)
keyed_object (node nullable t (object fs preserves type bounds cs)) keys _ h here = elim here [ ]
keyed_object _ keys v h here = elim h [ ]

-- items with the same element may not be in one list
alike_by_element : TextsAreUnique → (type : ListType) (keys : List (List ℕ)) (N : Node) (v w : Data) → (type ≡ list_type.Atomic → ⊥) → AreDistinct type keys N
    → IsValidHere N v → IsValidHere N w → IsTree v → IsTree w → item_element type keys v ≡ item_element type keys w → are_alike type keys v w ≡ true
alike_by_element same list_type.Atomic keys N v w other reported hv hw tv tw e = absurd (other refl)
alike_by_element same (list_type.Set a) keys N v w other reported hv hw tv tw e =
    let texts : compact v ≡ compact w = cc in
    subst (λ u. equal_by a v u ≡ true) (same v w tv tw texts) (equal_itself a v)
alike_by_element same (list_type.Map a) keys N v w other reported hv hw tv tw e =
    let ms = keyed_object N keys v reported hv in
    let ns = keyed_object N keys w reported hw in
    let mv : AreMembers ms.0 = subst IsTree ms.1 tv in
    let mw : AreMembers ns.0 = subst IsTree ns.1 tw in
    let f : codes "k:" ++ compact (tree.object (members_among keys ms.0)) ≡ codes "k:" ++ compact (tree.object (members_among keys ns.0)) = rw (ms.1, ns.1) at e in
    let texts : compact (tree.object (members_among keys ms.0)) ≡ compact (tree.object (members_among keys ns.0)) = cc in
    let trees : tree.object (members_among keys ms.0) ≡ tree.object (members_among keys ns.0) =
    same (tree.object (members_among keys ms.0)) (tree.object (members_among keys ns.0)) (members_of_some keys ms.0 mv) (members_of_some keys ns.0 mw) texts in
    let members : members_among keys ms.0 ≡ members_among keys ns.0 = cc in
    rw (ms.1, ns.1) (agree_on a keys keys ms.0 ns.0 (λ k b. b) members)

-- items that are alike are one
one_item : (alike : Data → Data → Bool) (ds : Items) (i j : ℕ) (v w : Data) → are_apart alike ds ≡ true → item_at i ds ≡ Some v → item_at j ds ≡ Some w
    → alike v w ≡ true → alike w v ≡ true → i ≡ j
one_item alike no_items i j v w apart e f h g = cc
one_item alike (item d ds) zero zero v w apart e f h g = refl
one_item alike (item d ds) zero (suc j) v w apart e f h g = let none = unlike alike d ds j w (not-true _ (and_parts _ _ apart).0) f in let same = same_Some d v e in cc
one_item alike (item d ds) (suc i) zero v w apart e f h g = let none = unlike alike d ds i v (not-true _ (and_parts _ _ apart).0) e in let same = same_Some d w f in cc
one_item alike (item d ds) (suc i) (suc j) v w apart e f h g = ap suc (one_item alike ds i j v w (and_parts _ _ apart).1 e f h g)

-- ---- what holds of each part

-- the items at this node and below it can be distinguished, and the value is valid
pub record IsSound (N : Node) (v : Data) : Type 0 where
  pub items : (p : Place) (M : Node) → node_at N p ≡ Some M → HasSoundItems M
  pub valid : IsValid N v
  pub tree : IsTree v

abbrev IsSoundPart : Part → Type 0
IsSoundPart (at N v) = IsSound N v
IsSoundPart (free v) = Unit {0}

tree_below : (v : Data) (s : Step) (w : Data) → IsTree v → part_by v s ≡ Some w → IsTree w
tree_below (tree.object ms) (name k) w t e = member_tree k ms w t e
tree_below (tree.list ds) (index i) w t e = item_tree i ds w t e
tree_below _ _ w t e = absurd (cc)

place_below : (N : Node) (v : Data) (s : Step) (M : Node) → node_by (pair N v) s ≡ Some M → (step : places.Step) × (node_below N step ≡ Some M)
place_below (node n t (object fs preserves type bounds cs)) (tree.object ms) (name k) M e = (property k, e)
place_below (node n t (map_of K type bounds)) (tree.object ms) (name k) M e = (map_value, e)
place_below (node n t (list K type keys bounds)) (tree.list ds) (index i) M e = (items, e)
place_below _ _ _ M e = absurd (cc)

sound_part : (N : Node) (v : Data) (s : Step) (M : Node) (w : Data) → IsSound N v → leads N v s ≡ Some (at M w) → IsSound M w
sound_part N v s M w h led =
    let both = leads_both N v s M w led in
    let step = place_below N v s M both.0 in
    record {
      items = λ p K e. h.items (step.0 ∷ p) K (rw step.1 e);
      valid = λ p t f. h.valid (s ∷ p) t (deeper N v s M w p t led f);
      tree = tree_below v s w h.tree (part_is N v s M both.0 ∙ both.1);
    }

sound_led : (N : Node) (v : Data) (s : Step) (q : Part) → IsSound N v → leads N v s ≡ Some q → IsSoundPart q
sound_led N v s (at M w) h led = sound_part N v s M w h led
sound_led N v s (free w) h led = tt

pub sound_below : (root : Node) (p : Place) (N : Node) → ((q : Place) (M : Node) → node_at root q ≡ Some M → HasSoundItems M) → node_at root p ≡ Some N
    → (q : Place) (M : Node) → node_at N q ≡ Some M → HasSoundItems M
sound_below root p N h there q M e = h (p ++ q) M (below_place root p N q there ∙ e)

-- ---- one step for each element

here_valid : (N : Node) (v : Data) → IsSound N v → IsValidHere N v
here_valid N v h = here_from N v (faultless N v h.valid)

one_place : TextsAreUnique → (n : Bool) (d : Option (List ℕ)) (M : Node) (type : ListType) (keys : List (List ℕ)) (bounds : Bounds) (ds : Items) (i j : ℕ) (q r : Part)
    → (type ≡ list_type.Atomic → ⊥) → IsSound (node n d (list M type keys bounds)) (tree.list ds)
    → option_map (at M) (item_at i ds) ≡ Some q → option_map (at M) (item_at j ds) ≡ Some r → item_element type keys (value_of q) ≡ item_element type keys (value_of r) → i ≡ j
one_place same n d M type keys bounds ds i j q r other h e f eq =
    let N = node n d (list M type keys bounds) in
    let v = mapped (at M) (item_at i ds) q e in
    let w = mapped (at M) (item_at j ds) r f in
    let reported : AreDistinct type keys M = h.items [] N refl in
    let sv : IsSound M v.0 = sound_part N (tree.list ds) (index i) M v.0 h (ap (option_map (at M)) v.1) in
    let sw : IsSound M w.0 = sound_part N (tree.list ds) (index j) M w.0 h (ap (option_map (at M)) w.1) in
    let elements : item_element type keys v.0 ≡ item_element type keys w.0 = ap (λ p. item_element type keys (value_of p)) v.2 ∙ (eq ∙ ap (λ p. item_element type keys (value_of p)) (sym w.2)) in
    let here = here_valid N (tree.list ds) h in
    one_item (are_alike type keys) ds i j v.0 w.0 here.1 v.1 w.1
    (alike_by_element same type keys M v.0 w.0 other reported (here_valid M v.0 sv) (here_valid M w.0 sw) sv.tree sw.tree elements)
    (alike_by_element same type keys M w.0 v.0 other reported (here_valid M w.0 sw) (here_valid M v.0 sv) sw.tree sv.tree (sym elements))

one_step : TextsAreUnique → (N : Node) (v : Data) (s t : Step) (q r : Part) → is_divided N v ≡ true → IsSound N v → leads N v s ≡ Some q → leads N v t ≡ Some r
    → element N s (value_of q) ≡ element N t (value_of r) → s ≡ t
one_step same (node n d (list M type keys bounds)) (tree.list ds) (index i) (index j) q r divided h e f eq =
    ap index (one_place same n d M type keys bounds ds i j q r (λ atomic. let g = rw atomic at divided in cc) h e f eq)
one_step same N (tree.object ms) (name k) (name l) q r divided h e f eq = let keys : k ≡ l = cc in ap name keys
one_step same N (tree.object ms) (index i) t q r divided h e f eq = absurd (cc)
one_step same N (tree.object ms) s (index j) q r divided h e f eq = absurd (cc)
one_step same N (tree.list ds) (name k) t q r divided h e f eq = absurd (cc)
one_step same N (tree.list ds) s (name l) q r divided h e f eq = absurd (cc)
one_step same N v s t q r divided h e f eq = absurd (undivided N v refl divided)

-- ---- one path for each list of elements

one_path : TextsAreUnique → (p q : Path) (a : Part) (es fs rest : List (List ℕ)) → IsSoundPart a → leaf_at a p ≡ Some es → leaf_at a q ≡ Some fs → es ++ rest ≡ fs → p ≡ q
one_path same [] [] a es fs rest h e f eq = refl
one_path same [] (t ∷ q) (free v) es fs rest h e f eq = cc
one_path same (s ∷ p) q (free v) es fs rest h e f eq = cc
one_path same [] (t ∷ q) (at N v) es fs rest h e f eq = elim (bool_cases (is_divided N v)) [
  | inl divided ↦ let none = rw divided at e in cc
  | inr single ↦ let none = rw single at f in cc
]
one_path same (s ∷ p) [] (at N v) es fs rest h e f eq = elim (bool_cases (is_divided N v)) [
  | inl divided ↦ let none = rw divided at f in cc
  | inr single ↦ let none = rw single at e in cc
]
one_path same (s ∷ p) (t ∷ q) (at N v) es fs rest h e f eq = elim (bool_cases (is_divided N v)) [
  | inl divided ↦
      let x = down N v s p es divided e in
      let y = down N v t q fs divided f in
      let both : element N s (value_of x.0) ∷ (x.1 ++ rest) ≡ element N t (value_of y.0) ∷ y.1 = ap (λ gs. gs ++ rest) x.4 ∙ (eq ∙ sym y.4) in
      let elements : element N s (value_of x.0) ≡ element N t (value_of y.0) = cc in
      let later : x.1 ++ rest ≡ y.1 = cc in
      let step = one_step same N v s t x.0 y.0 divided h x.2 y.2 elements in
      let part : y.0 ≡ x.0 = same_Some y.0 x.0 (sym y.2 ∙ (ap (leads N v) (sym step) ∙ x.2)) in
      let path = one_path same p q x.0 x.1 y.1 rest (sound_led N v s x.0 h x.2) x.3 (subst (λ b. leaf_at b q ≡ Some y.1) part y.3) later in
      cc
  | inr single ↦ let none = rw single at e in cc
]

never_itself : (p : Path) → path_cmp p p ≡ Less → ⊥
never_itself [] less = cc
never_itself (s ∷ p) less = never_itself p (sym (same_step s p p) ∙ less)

-- ---- all leaves

apart : TextsAreUnique → (N : Node) (v : Data) (ls : List LeafAt) → IsSound N v → ((l : LeafAt) → Among ls l → leaf_at (at N v) l.path ≡ Some l.elements)
    → Rising (λ l m. path_cmp l.path m.path ≡ Less) ls → Rising BeginsNone (map (λ l. l.elements) ls)
apart same N v [] h each r = tt
apart same N v (l ∷ ls) h each r = (
  λ es a. let m = among_map (λ k. k.elements) ls es a in
      let before = r.0 m.0 m.1 in
      let el = each l (inl refl) in
      let em = each m.0 (inr m.1) in
      subst (BeginsNone l.elements) m.2 (
        λ rest e. let one = one_path same l.path m.0.path (at N v) l.elements m.0.elements rest h el em e in never_itself l.path (subst (λ p. path_cmp l.path p ≡ Less) (sym one) before),
        λ rest e. let one = one_path same m.0.path l.path (at N v) m.0.elements l.elements rest h em el e in never_itself l.path (subst (λ p. path_cmp l.path p ≡ Less) one before),
      ),
  apart same N v ls h (λ m a. each m (inr a)) r.1,
)

pub leaves_apart : (N : Node) (v : Data) (leaves : List (List (List ℕ))) → TextsAreUnique → IsSound N v → AreLeaves N v leaves → AreApart leaves
leaves_apart N v leaves same h a =
    let ls = a.0 in
    subst AreApart a.2 (all_pairs BeginsNone (map (λ l. l.elements) ls) (apart same N v ls h (λ l b. All-contains (λ m. leaf_at (at N v) m.path ≡ Some m.elements) ls l a.1.each (contains ls l b)) (rising (λ l m. path_cmp l.path m.path ≡ Less) ls a.1.ascending)))

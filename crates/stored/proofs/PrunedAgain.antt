-- Pruning what was pruned changes nothing, and so pruning what was filled, where defaults are good.
use Rattle.std.proofs.Common.{◌≡◌, ℕ, List, [], ◌∷◌, ◌++◌, Bool, true, false, Option, Some, None, refl, sym, ap, ◌∙◌, subst, inl, inr}
use Rattle.std.proofs.lemmas.List.{append_assoc}
use Rattle.std.proofs.lemmas.Option.{same_Some}
use Rattle.std.specs.Prelude.{option_map, option_and_then}
use Rattle.jtree.specs.Data.{Data, Items, Members}
use Rattle.jtree.specs.Data as tree
use Rattle.jtree.specs.Path.{Step, name, index, Path, member_at, item_at, part_at, part_by}
use Rattle.jtree.specs.Internal.Lookups.{bool_cases, option_cases}
use Rattle.schema.specs.Document.Places as places
use Rattle.schema.specs.Document.Places.{Place}
use Rattle.schema.specs.Nodes.Node.{Node, node, object, map, list, Fields, Validations}
use Rattle.schema.specs.Nodes.ByPlace.{Declared, field_at, node_below, node_at}
use Rattle.schema.specs.declared.node.Bounds.{Bounds}
use Rattle.schema.specs.declared.node.MapType.{MapType}
use Rattle.schema.specs.declared.node.ListType.{ListType}
use Rattle.stored.specs.Objects.Parts.{at, value_of, part_by_path, Leading}
use Rattle.stored.specs.Objects.Becomes.{label, Becomes, leads_uncut, leads_filled, admitted, or_default, is_nullable, IsPruned, IsFilled}
use Rattle.stored.specs.Schemas.Defaults.{IsGoodDefault, HasGoodDefaults, field_of}
use Rattle.stored.specs.Internal.Becoming.{PartBecomes}
use Rattle.stored.proofs.BecomingLemmas.{free_stays}
use Rattle.stored.proofs.FilledAgain.{same_label, list_only, object_only, absent}

abbrev IsPrunedAgain : Node → Data → Path → Type 0
IsPrunedAgain N w path = option_map label (part_at w path) ≡ option_map (λ q. label (value_of q)) (part_by_path leads_uncut (at N w) path)

-- a part that is there has become so of one
of_part : (lead : Leading) (N : Node) (v y : Option Data) → PartBecomes lead (option_map (at N) v) y → (e : Data) → y ≡ Some e → (d : Data) × (v ≡ Some d) × Becomes lead N d e
of_part lead N None y b e is = let none = absent lead None y b refl in let no = sym is ∙ none in absurd (cc)
of_part lead N (Some d) y b e is = (d, refl, rw is at b)

each : (N : Node) (y : Option Data) (path : Path) → ((e : Data) → y ≡ Some e → IsPrunedAgain N e path)
    → option_map label (option_and_then (λ d. part_at d path) y) ≡ option_map (λ r. label (value_of r)) (option_and_then (λ r. part_by_path leads_uncut r path) (option_map (at N) y))
each N None path h = refl
each N (Some e) path h = h e refl

-- ---- by what is under each name and index

-- Two values with the same kind are related so that each part of the second, at its node, is related to some value, and that
-- names that are cut are absent from it. Then pruning the second changes nothing.
pub record Prunes (R : Node → Data → Data → Type 0) : Type 0 where
  pub alike : (N : Node) (v w : Data) → R N v w → label w ≡ label v
  pub cut : (nullable : Bool) (description : Option (List ℕ)) (fs : Fields) (type : MapType) (bounds : Bounds) (cs : Validations) (ms ns : Members) (k : List ℕ)
      → R (node nullable description (object fs false type bounds cs)) (tree.object ms) (tree.object ns) → field_at k fs ≡ None → member_at k ns ≡ None
  pub field : (nullable : Bool) (description : Option (List ℕ)) (fs : Fields) (preserves : Bool) (type : MapType) (bounds : Bounds) (cs : Validations) (ms ns : Members) (k : List ℕ) (f : Declared) (e : Data)
      → R (node nullable description (object fs preserves type bounds cs)) (tree.object ms) (tree.object ns) → field_at k fs ≡ Some f → member_at k ns ≡ Some e → (d : Data) × R f.node d e
  pub value : (nullable : Bool) (description : Option (List ℕ)) (M : Node) (type : MapType) (bounds : Bounds) (ms ns : Members) (k : List ℕ) (e : Data)
      → R (node nullable description (map M type bounds)) (tree.object ms) (tree.object ns) → member_at k ns ≡ Some e → (d : Data) × R M d e
  pub item : (nullable : Bool) (description : Option (List ℕ)) (M : Node) (type : ListType) (keys : List (List ℕ)) (bounds : Bounds) (ds es : Items) (i : ℕ) (e : Data)
      → R (node nullable description (list M type keys bounds)) (tree.list ds) (tree.list es) → item_at i es ≡ Some e → (d : Data) × R M d e

of_object : (R : Node → Data → Data → Type 0) → Prunes R → (N : Node) (v : Data) (ns : Members) → R N v (tree.object ns) → (ms : Members) × R N (tree.object ms) (tree.object ns)
of_object R P N v ns r = let is = object_only v (sym (P.alike N v (tree.object ns) r)) in (is.0, subst (λ z. R N z (tree.object ns)) is.1 r)

of_list : (R : Node → Data → Data → Type 0) → Prunes R → (N : Node) (v : Data) (es : Items) → R N v (tree.list es) → (ds : Items) × R N (tree.list ds) (tree.list es)
of_list R P N v es r = let is = list_only v (sym (P.alike N v (tree.list es) r)) in (is.0, subst (λ z. R N z (tree.list es)) is.1 r)

step : (R : Node → Data → Data → Type 0) → Prunes R → (N : Node) (v w : Data) → R N v w → (s : Step) (path : Path) → ((M : Node) (d e : Data) → R M d e → IsPrunedAgain M e path) → IsPrunedAgain N w (s ∷ path)
step R P (node n t (object fs preserves type bounds cs)) v (tree.object ns) r (index i) path again = refl
step R P (node n t (object fs true type bounds cs)) v (tree.object ns) r (name k) path again = elim (option_cases (field_at k fs)) [
  | inl none ↦ rw none (free_stays leads_uncut (member_at k ns) path)
  | inr f ↦ rw f.1 (each f.0.node (member_at k ns) path (λ e is.
      let o = of_object R P (node n t (object fs true type bounds cs)) v ns r in
      let d = P.field n t fs true type bounds cs o.0 ns k f.0 e o.1 f.1 is in again f.0.node d.0 e d.1))
]
step R P (node n t (object fs false type bounds cs)) v (tree.object ns) r (name k) path again =
    let o = of_object R P (node n t (object fs false type bounds cs)) v ns r in
    elim (option_cases (field_at k fs)) [
      | inl none ↦ rw (none, P.cut n t fs type bounds cs o.0 ns k o.1 none) refl
      | inr f ↦ rw f.1 (each f.0.node (member_at k ns) path (λ e is. let d = P.field n t fs false type bounds cs o.0 ns k f.0 e o.1 f.1 is in again f.0.node d.0 e d.1))
    ]
step R P (node n t (map M type bounds)) v (tree.object ns) r (index i) path again = refl
step R P (node n t (map M type bounds)) v (tree.object ns) r (name k) path again =
    let o = of_object R P (node n t (map M type bounds)) v ns r in
    each M (member_at k ns) path (λ e is. let d = P.value n t M type bounds o.0 ns k e o.1 is in again M d.0 e d.1)
step R P (node n t (list M type keys bounds)) v (tree.list es) r (name k) path again = refl
step R P (node n t (list M type keys bounds)) v (tree.list es) r (index i) path again =
    let o = of_list R P (node n t (list M type keys bounds)) v es r in
    each M (item_at i es) path (λ e is. let d = P.item n t M type keys bounds o.0 es i e o.1 is in again M d.0 e d.1)
step R P _ v w r s path again = free_stays leads_uncut (part_by w s) path

pub prunes : (R : Node → Data → Data → Type 0) → Prunes R → (N : Node) (v w : Data) → R N v w → IsPruned N w w
prunes R P N v w r [] = refl
prunes R P N v w r (s ∷ path) = step R P N v w r s path (λ M d e h. prunes R P M d e h path)

-- ---- pruned again

-- a declared name is not cut
pub uncut : (n : Bool) (t : Option (List ℕ)) (fs : Fields) (preserves : Bool) (type : MapType) (bounds : Bounds) (cs : Validations) (ms ns : Members) (k : List ℕ) (f : Declared)
    → IsPruned (node n t (object fs preserves type bounds cs)) (tree.object ms) (tree.object ns) → field_at k fs ≡ Some f → PartBecomes leads_uncut (option_map (at f.node) (member_at k ms)) (member_at k ns)
uncut n t fs true type bounds cs ms ns k f b found path = rw found at (b (name k ∷ path))
uncut n t fs false type bounds cs ms ns k f b found path = rw found at (b (name k ∷ path))

uncut_below : Prunes IsPruned
uncut_below = record {
  alike = λ N v w b. same_label leads_uncut N v w b;
  cut = λ n t fs type bounds cs ms ns k b none. absent leads_uncut None (member_at k ns) (λ p. rw none at (b (name k ∷ p))) refl;
  field = λ n t fs preserves type bounds cs ms ns k f e b found is.
      let o = of_part leads_uncut f.node (member_at k ms) (member_at k ns) (uncut n t fs preserves type bounds cs ms ns k f b found) e is in (o.0, o.2);
  value = λ n t M type bounds ms ns k e b is. let o = of_part leads_uncut M (member_at k ms) (member_at k ns) (λ p. b (name k ∷ p)) e is in (o.0, o.2);
  item = λ n t M type keys bounds ds es i e b is. let o = of_part leads_uncut M (item_at i ds) (item_at i es) (λ p. b (index i ∷ p)) e is in (o.0, o.2);
}

pub pruned_again : (N : Node) (v w : Data) → IsPruned N v w → IsPruned N w w
pruned_again N v w b = prunes IsPruned uncut_below N v w b

-- ---- pruned after defaulting

-- each field of each object has a good default, where it has one
abbrev AreGood : Node → Type 0
AreGood N = (p : Place) (M : Node) (k : List ℕ) (f : Declared) (d : Data) → node_at N p ≡ Some M → field_of M k ≡ Some f → f.default ≡ Some d → IsGoodDefault f.node d

pub record IsGoodDefaulting (N : Node) (v w : Data) : Type 0 where
  pub good : AreGood N
  pub pruned : IsPruned N v v
  pub filled : IsFilled N v w

admitted_only : (N : Node) (v : Option Data) (d : Data) → admitted N v ≡ Some d → v ≡ Some d
admitted_only N (Some tree.null) d e = elim (bool_cases (is_nullable N)) [ inl t ↦ rw t at e | inr f ↦ let g = rw f at e in absurd (cc) ]
admitted_only N v d e = e

-- what is filled under a declared name is there already, and is pruned, or is the default
filled_from : (N : Node) (v default : Option Data) (d : Data) → or_default (admitted N v) default ≡ Some d → (v ≡ Some d → IsPruned N d d) → (default ≡ Some d → IsPruned N d d) → IsPruned N d d
filled_from N v default d e is_default by_default = elim (option_cases (admitted N v)) [
  | inl none ↦ by_default (rw none at e)
  | inr a ↦ is_default (admitted_only N v d (a.1 ∙ rw a.1 at e))
]

-- a value that is there is pruned, where the whole is
pub pruned_part : (N : Node) (v : Option Data) (d : Data) → PartBecomes leads_uncut (option_map (at N) v) v → v ≡ Some d → IsPruned N d d
pruned_part N v d b is = rw is at b

filled_below : Prunes IsGoodDefaulting
filled_below = record {
  alike = λ N v w b. same_label leads_filled N v w b.filled;
  cut = λ n t fs type bounds cs ms ns k b none.
      let gone = absent leads_uncut None (member_at k ms) (λ p. rw none at (b.pruned (name k ∷ p))) refl in
      absent leads_filled None (member_at k ns) (λ p. rw (none, gone) at (b.filled (name k ∷ p))) refl;
  field = λ n t fs preserves type bounds cs ms ns k f e b found is.
      let o = of_part leads_filled f.node (or_default (admitted f.node (member_at k ms)) f.default) (member_at k ns) (λ p. rw found at (b.filled (name k ∷ p))) e is in (
        o.0,
        record {
          good = λ p M j g d leads. b.good (places.property k ∷ p) M j g d (rw found leads);
          pruned = filled_from f.node (member_at k ms) f.default o.0 o.1
              (pruned_part f.node (member_at k ms) o.0 (uncut n t fs preserves type bounds cs ms ms k f b.pruned found))
              (λ default. (b.good [] (node n t (object fs preserves type bounds cs)) k f o.0 refl found default).pruned);
          filled = o.2;
        },
      );
  value = λ n t M type bounds ms ns k e b is.
      let o = of_part leads_filled M (admitted M (member_at k ms)) (member_at k ns) (λ p. b.filled (name k ∷ p)) e is in (
        o.0,
        record {
          good = λ p. b.good (places.map_value ∷ p);
          pruned = pruned_part M (member_at k ms) o.0 (λ p. b.pruned (name k ∷ p)) (admitted_only M (member_at k ms) o.0 o.1);
          filled = o.2;
        },
      );
  item = λ n t M type keys bounds ds es i e b is.
      let o = of_part leads_filled M (item_at i ds) (item_at i es) (λ p. b.filled (index i ∷ p)) e is in
      (o.0, record { good = λ p. b.good (places.items ∷ p); pruned = pruned_part M (item_at i ds) o.0 (λ p. b.pruned (index i ∷ p)) o.1; filled = o.2 });
}

-- what was pruned, and then filled with good defaults, is pruned
pub filled_pruned : (N : Node) (u v w : Data) → HasGoodDefaults N → IsPruned N u v → IsFilled N v w → IsPruned N w w
filled_pruned N u v w good pruned filled = prunes IsGoodDefaulting filled_below N v w (record {
  good = λ p M k f d there is has. good (p ++ (places.property k ∷ [])) f.node d
      (record { before = p; name = k; place_is = refl; object = M; object_is = there; field = f; field_is = is; node_is = refl; default_is = has });
  pruned = pruned_again N u v pruned;
  filled = filled;
})

-- ---- the defaults below a place of good ones

pub below_place : (root : Node) (p : Place) (N : Node) (q : Place) → node_at root p ≡ Some N → node_at root (p ++ q) ≡ node_at N q
below_place root [] N q there = ap (λ M. node_at M q) (same_Some root N there)
below_place root (s ∷ p) N q there = elim (option_cases (node_below root s)) [
  | inl none ↦ let e = rw none at there in cc
  | inr step ↦ rw step.1 (below_place step.0 p N q (rw step.1 at there))
]

pub good_below : (root : Node) (p : Place) (N : Node) → HasGoodDefaults root → node_at root p ≡ Some N → HasGoodDefaults N
good_below root p N good there q M d h = good (p ++ q) M d (record {
  before = p ++ h.before;
  name = h.name;
  place_is = ap (λ r. p ++ r) h.place_is ∙ sym (append_assoc p h.before (places.property h.name ∷ []));
  object = h.object;
  object_is = below_place root p N h.before there ∙ h.object_is;
  field = h.field;
  field_is = h.field_is;
  node_is = h.node_is;
  default_is = h.default_is;
})
